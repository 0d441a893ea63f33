use Rattle.std.proofs.Common.{refl}
use Rattle.tm_solve.specs.Narrowed.{narrowed}
use Rattle.tm_solve.proofs.Following.{follows_then, told_same, told_other}
use Rattle.tm_solve.proofs.Narrowing.{narrowed_absorbing, narrowed_monotone}
use Rattle.tm_solve.proofs.ReachSteps.{turned_at, ranked_at, reach_goes_on, reach_grows, reach_ends}
use Rattle.tm_solve.proofs.goals.reach.Goals as goal

pub returns-then-same-clause-reached : goal.returns-then-same-clause-reached
returns-then-same-clause-reached g c =
    let inv = c.turns.invariant in
    let game = g.P.Pre.game c.args.pre.now in
    let z = (g.P.Pre.ids c.args.pre.now).means c.args.z in
    let mono = narrowed_monotone game z (g.met.P.Pre.monotone c.args.pre.now) in
    let same_z = inv.follows.extends.same c.args.z c.requires.z_known in
    let t = turned_at (g.P.Pre.game c.args.pre.now) (g.P.Pre.game c.turns.pre) (g.P.Pre.ids c.take_turn.new.pre) _ _ _
    c.args.goal c.in_ok-turned.turned inv.follows.game same_z c.in_ok-turned.ensures.turned in
    let ranked = ranked_at (g.P.Pre.game c.args.pre.now) (g.P.Pre.game c.turns.pre) (g.P.Pre.ids c.take_turn.new.pre) _
    _
    c.args.goal c.in_ok-turned.turned.set c.take_turn.new.ranks.items inv.follows.game same_z
    c.in_ok-turned.ensures.ranked in
    reach_ends (narrowed game z) mono _ c.args.goal
    (narrowed_absorbing game z (g.met.P.Pre.absorbing c.args.pre.now)) c.turns.y c.in_ok-turned.turned
    c.take_turn.new.ranks.items _ inv.reach t ranked c.take_turn.ensures.follows.extends
    (told_same c.if-same.ensures) refl refl refl

pub turns-smaller : goal.turns-smaller
turns-smaller g c =
    let inv = c.turns.invariant in
    let game = g.P.Pre.game c.args.pre.now in
    let z = (g.P.Pre.ids c.args.pre.now).means c.args.z in
    let mono = narrowed_monotone game z (g.met.P.Pre.monotone c.args.pre.now) in
    let same_z = inv.follows.extends.same c.args.z c.requires.z_known in
    let t = turned_at (g.P.Pre.game c.args.pre.now) (g.P.Pre.game c.turns.pre) (g.P.Pre.ids c.take_turn.new.pre) _ _ _
    c.args.goal c.in_ok-turned.turned inv.follows.game same_z c.in_ok-turned.ensures.turned in
    reach_grows (narrowed game z) mono _ c.args.goal c.turns.y
    c.in_ok-turned.turned inv.reach t c.take_turn.ensures.follows.extends
    (follows_then inv.follows c.take_turn.ensures.follows).exact (told_other c.if-same.ensures)

pub turns-preserved : goal.turns-preserved
turns-preserved g c =
    let inv = c.turns.invariant in
    let game = g.P.Pre.game c.args.pre.now in
    let z = (g.P.Pre.ids c.args.pre.now).means c.args.z in
    let mono = narrowed_monotone game z (g.met.P.Pre.monotone c.args.pre.now) in
    let same_z = inv.follows.extends.same c.args.z c.requires.z_known in
    let t = turned_at (g.P.Pre.game c.args.pre.now) (g.P.Pre.game c.turns.pre) (g.P.Pre.ids c.take_turn.new.pre) _ _ _
    c.args.goal c.in_ok-turned.turned inv.follows.game same_z c.in_ok-turned.ensures.turned in
    record {
      follows = follows_then inv.follows c.take_turn.ensures.follows;
      reach = reach_goes_on (narrowed game z) mono _ c.args.goal c.turns.y
          c.in_ok-turned.turned inv.reach t;
      ranked = ranked_at (g.P.Pre.game c.args.pre.now) (g.P.Pre.game c.turns.pre) (g.P.Pre.ids c.take_turn.new.pre) _ _
          c.args.goal c.in_ok-turned.turned.set c.take_turn.new.ranks.items inv.follows.game same_z
          c.in_ok-turned.ensures.ranked;
    }
