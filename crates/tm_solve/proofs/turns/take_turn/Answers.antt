use Rattle.std.proofs.Common.{◌<◌, refl, arith}
use Rattle.tm_solve.specs.Narrowed.{narrowed}
use Rattle.tm_solve.proofs.Following.{follows_then, is_at}
use Rattle.tm_solve.proofs.Narrowing.{narrowed_monotone}
use Rattle.tm_solve.proofs.TurnSteps.{waited_at, turn_continues, rank_added, turn_ends}
use Rattle.tm_solve.proofs.turns.take_turn.Goals as goal

pub loop-fair-preserved : goal.loop-fair-preserved
loop-fair-preserved g c =
    let inv = c.loop-fair.invariant in
    let game = g.P.Pre.game c.args.pre.now in
    let z = (g.P.Pre.ids c.args.pre.now).means c.args.z in
    let mono = narrowed_monotone game z (g.met.P.Pre.monotone c.args.pre.now) in
    let w = waited_at (g.P.Pre.game c.args.pre.now) (g.P.Pre.game c.loop-fair.pre) (g.P.Pre.ids c.wait.new.pre) _ _ _ _
    c.args.goal c.loop-fair.fair c.in_ok-waited.waited inv.follows.game
    (inv.follows.extends.same c.args.z c.requires.z_known) (inv.follows.extends.same c.args.y c.requires.y_known)
    c.in_ok-waited.ensures.waited in
    let below : c.loop-fair.fair < (g.P.Pre.game c.args.pre.now).fairs = omega arith in
    let to_wait = follows_then inv.follows c.wait.ensures.follows in
    let all = follows_then to_wait c.grow.ensures.follows in
    let grown = is_at to_wait.game c.in_ok-set.ensures.grown in
    record {
      follows = all;
      turns = turn_continues (narrowed game z) mono _ _ c.args.goal c.loop-fair.fair c.loop-fair.set c.in_ok-set.set
          c.loop-fair.chains.items _ c.in_ok-waited.waited inv.turns w below
          c.wait.ensures.follows.extends c.grow.ensures.follows.extends grown c.in_ok-push.ensures.items;
      ranked = rank_added (narrowed game z) mono _ _ c.args.goal c.loop-fair.fair c.loop-fair.set c.in_ok-set.set
          c.loop-fair.chains.items c.in_ok-waited.waited c.loop-fair.ranks.items c.grow.new.ranks.items
          inv.turns inv.ranked w below c.wait.ensures.follows.extends c.grow.ensures.follows.extends
          all.exact grown c.in_ok-set.ensures.ranks;
    }

pub returns-clause-turned : goal.returns-clause-turned
returns-clause-turned g c =
    turn_ends _ c.loop-fair.invariant.turns (omega arith) refl refl
