use Rattle.std.proofs.Common.{◌<◌, refl, arith}
use Rattle.tm_solve.proofs.Following.{follows_then, is_at}
use Rattle.tm_solve.proofs.RoundSteps.{reached_at, removed_at, round_goes_on, reached_more, level_added, round_ends}
use Rattle.tm_solve.proofs.rounds.play_round.Goals as goal

pub loop-goal-preserved : goal.loop-goal-preserved
loop-goal-preserved g c =
    let inv = c.loop-goal.invariant in
    let r = reached_at (g.P.Pre.game c.args.pre.now) (g.P.Pre.game c.loop-goal.pre) (g.P.Pre.ids c.reach.new.pre) _ _
    c.loop-goal.goal c.in_ok-reached.reached inv.follows.game
    (inv.follows.extends.same c.args.z c.requires.z_known) c.in_ok-reached.ensures.reached in
    let below : c.loop-goal.goal < (g.P.Pre.game c.args.pre.now).goals = omega arith in
    let to_reach = follows_then inv.follows c.reach.ensures.follows in
    let all = follows_then to_reach c.remove.ensures.follows in
    let left = is_at to_reach.game c.in_ok-region.ensures.left in
    record {
      follows = all;
      round = round_goes_on c.loop-goal.region c.in_ok-region.region c.in_ok-reached.reached inv.round r
          c.reach.ensures.follows.extends c.remove.ensures.follows.extends left;
      reached = reached_more c.loop-goal.ranks.items _ c.in_ok-reached.reached inv.reached r
          c.reach.ensures.follows.extends c.remove.ensures.follows.extends c.in_ok-push.ensures.items;
      leveled = λ begun.
          level_added (g.P.Pre.game c.args.pre.now) (g.met.P.Pre.monotone c.args.pre.now) _ c.loop-goal.goal
          c.loop-goal.region c.in_ok-region.region c.in_ok-reached.reached.set _ c.loop-goal.levels.items
          c.remove.new.levels.items below inv.round.known
          (record { within = λ s among here. (inv.round.set.only s among here).0 }) (inv.leveled begun) r.chains
          c.reach.ensures.follows.extends c.remove.ensures.follows.extends all.exact left
          (removed_at (g.P.Pre.game c.args.pre.now) (g.P.Pre.game c.reach.new.pre) (g.P.Pre.ids c.remove.new.pre)
          c.loop-goal.region c.loop-goal.goal _ c.in_ok-region.region _ _ to_reach.game c.in_ok-region.ensures.levels);
    }

pub returns-clause-remaining : goal.returns-clause-remaining
returns-clause-remaining g c =
    let inv = c.loop-goal.invariant in round_ends _ inv.round inv.reached (omega arith) refl refl
