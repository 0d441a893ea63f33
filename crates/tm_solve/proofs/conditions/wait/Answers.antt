use Rattle.std.proofs.Common.{refl}
use Rattle.tm_solve.specs.Narrowed.{narrowed}
use Rattle.tm_solve.proofs.Following.{follows_then, is_kept, is_at, told_same, told_other}
use Rattle.tm_solve.proofs.Narrowing.{narrowed_monotone, met_at}
use Rattle.tm_solve.proofs.WaitSteps.{part_at, wait_continues, wait_shrinks, wait_ends}
use Rattle.tm_solve.proofs.conditions.wait.Goals as goal

pub returns-then-same-clause-waited : goal.returns-then-same-clause-waited
returns-then-same-clause-waited g c =
    let inv = c.iterates.invariant in
    let game = g.P.Pre.game c.args.pre.now in
    let z = (g.P.Pre.ids c.args.pre.now).means c.args.z in
    let mono = narrowed_monotone game z (g.met.P.Pre.monotone c.args.pre.now) in
    let made = part_at game (g.P.Pre.game c.iterates.pre) (g.P.Pre.ids c.iterates.pre) (g.P.Pre.ids c.part.new.self)
    _ _ c.args.z c.args.y c.iterates.x c.in_ok-made.made c.args.goal c.args.fair inv.follows.game
    (inv.follows.extends.same c.args.z c.requires.z_known) (inv.follows.extends.same c.args.y c.requires.y_known)
    c.in_ok-made.ensures.value in
    let to_made = follows_then inv.follows c.part.ensures.follows in
    let is = met_at game (g.P.Pre.game c.part.new.self) (g.P.Pre.ids c.part.new.self) (g.P.Pre.ids c.meet.new.self) z _
    c.args.z c.in_ok-made.made c.in_ok-next.next to_made.game (to_made.extends.same c.args.z c.requires.z_known) made
    c.in_ok-next.ensures.value in
    let step = follows_then c.part.ensures.follows c.meet.ensures.follows in
    wait_ends (narrowed game z) mono _ _ c.args.goal c.args.fair c.iterates.x c.in_ok-next.next
    c.iterates.sets.items _ inv.waits is step.extends (told_same c.if-same.ensures) refl refl

pub iterates-smaller : goal.iterates-smaller
iterates-smaller g c =
    let inv = c.iterates.invariant in
    let game = g.P.Pre.game c.args.pre.now in
    let z = (g.P.Pre.ids c.args.pre.now).means c.args.z in
    let mono = narrowed_monotone game z (g.met.P.Pre.monotone c.args.pre.now) in
    let made = part_at game (g.P.Pre.game c.iterates.pre) (g.P.Pre.ids c.iterates.pre) (g.P.Pre.ids c.part.new.self)
    _ _ c.args.z c.args.y c.iterates.x c.in_ok-made.made c.args.goal c.args.fair inv.follows.game
    (inv.follows.extends.same c.args.z c.requires.z_known) (inv.follows.extends.same c.args.y c.requires.y_known)
    c.in_ok-made.ensures.value in
    let to_made = follows_then inv.follows c.part.ensures.follows in
    let is = met_at game (g.P.Pre.game c.part.new.self) (g.P.Pre.ids c.part.new.self) (g.P.Pre.ids c.meet.new.self) z _
    c.args.z c.in_ok-made.made c.in_ok-next.next to_made.game (to_made.extends.same c.args.z c.requires.z_known) made
    c.in_ok-next.ensures.value in
    let step = follows_then c.part.ensures.follows c.meet.ensures.follows in
    wait_shrinks (narrowed game z) mono _ _ c.args.goal c.args.fair c.iterates.x c.in_ok-next.next
    c.iterates.sets.items inv.waits is step.extends c.without.ensures.follows.extends
    (follows_then inv.follows step).exact (told_other c.if-same.ensures)

pub iterates-preserved : goal.iterates-preserved
iterates-preserved g c =
    let inv = c.iterates.invariant in
    let game = g.P.Pre.game c.args.pre.now in
    let z = (g.P.Pre.ids c.args.pre.now).means c.args.z in
    let mono = narrowed_monotone game z (g.met.P.Pre.monotone c.args.pre.now) in
    let made = part_at game (g.P.Pre.game c.iterates.pre) (g.P.Pre.ids c.iterates.pre) (g.P.Pre.ids c.part.new.self)
    _ _ c.args.z c.args.y c.iterates.x c.in_ok-made.made c.args.goal c.args.fair inv.follows.game
    (inv.follows.extends.same c.args.z c.requires.z_known) (inv.follows.extends.same c.args.y c.requires.y_known)
    c.in_ok-made.ensures.value in
    let to_made = follows_then inv.follows c.part.ensures.follows in
    let is = met_at game (g.P.Pre.game c.part.new.self) (g.P.Pre.ids c.part.new.self) (g.P.Pre.ids c.meet.new.self) z _
    c.args.z c.in_ok-made.made c.in_ok-next.next to_made.game (to_made.extends.same c.args.z c.requires.z_known) made
    c.in_ok-next.ensures.value in
    let step = follows_then c.part.ensures.follows c.meet.ensures.follows in
    let to_next = follows_then inv.follows step in
    let on = c.without.ensures.follows in
    record {
      follows = follows_then to_next on;
      whole = is_kept on.extends (is_kept step.extends inv.whole);
      waits = wait_continues (narrowed game z) mono _ _ c.args.goal c.args.fair c.whole-whole.result c.iterates.x
          c.in_ok-next.next c.in_ok-removed.removed c.iterates.sets.items _ inv.waits inv.whole is step.extends
          on.extends (is_at to_next.game c.in_ok-removed.ensures.value) c.in_ok-push.ensures.items;
    }
