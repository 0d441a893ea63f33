use Rattle.std.proofs.Common.{◌≡◌, true, ◌&&◌, ap, sym, subst, ◌∙◌, ◌<◌, List, length}
use Rattle.std.proofs.Math.Logic.{∥∥₁_elim}
use Rattle.std.proofs.lemmas.Result.{IfOk-weaker}
use Rattle.tm_dd.specs.declared.node.NodeId.{NodeId}
use Rattle.tm_dd.specs.declared.node.TheConstants.{TRUE}
use Rattle.tm_sem.specs.Play.{goal_holds}
use Rattle.tm_solve.specs.Game.{Game}
use Rattle.tm_solve.proofs.Following.{follows_then}
use Rattle.tm_solve_exact.specs.Exact.{exact_game, exact_ids, set_of}
use Rattle.tm_solve_exact.proofs.Growing.{states_set}
use Rattle.tm_game.proofs.Growing.{grows_then}
use Rattle.tm_solve_exact.proofs.Parted.{changed, goal_same}
use Rattle.tm_solve_exact.proofs.Truncated.{set_prop}
use Rattle.tm_solve_exact.proofs.parts.reach.Goals as goal

pub goal-holds-requires : goal.goal-holds-requires
goal-holds-requires c =
    subst (λ (ids : List NodeId). c.args.goal < length ids) (sym c.stay.ensures.grows.goals) c.requires.goal

pub both-requires-clause-a : goal.both-requires-clause-a
both-requires-clause-a c =
    ∥∥₁_elim c.stay.ensures.of (set_prop _ _)
    (λ x. states_set x.0 c.stay.new.game x.1 (λ s. goal_holds x.0 s c.args.goal ≡ true) c.goal-holds.result
    (c.goal-holds.ensures.states x.0 x.1.ordered.of))

pub both-requires-clause-b : goal.both-requires-clause-b
both-requires-clause-b c = c.in_ok-near.ensures.value.known

pub returns-clause-value : goal.returns-clause-value
returns-clause-value c =
    IfOk-weaker c.both.result _ _
    (λ id is.
    changed (exact_game c.args.game.now).states (exact_game c.stay.new.game).states (exact_ids c.both.new.game) id _ _
    (ap (λ (q : Game). q.states) c.stay.ensures.follows.game) is
    (λ s among.
    let first = ap (λ i. set_of c.stay.new.game i s) (c.goal-holds.ensures.value TRUE)
    ∙ goal_same c.args.game.now c.stay.new.game c.requires.of c.stay.ensures.grows c.args.goal s in
    let second = c.in_ok-near.ensures.value.means.same s among in
    λ k. first k && second k)) c.both.ensures.value

pub returns-clause-follows : goal.returns-clause-follows
returns-clause-follows c = follows_then c.stay.ensures.follows c.both.ensures.follows

pub returns-clause-grows : goal.returns-clause-grows
returns-clause-grows c =
    grows_then c.args.game.now c.stay.new.game c.both.new.game c.stay.ensures.grows c.both.ensures.grows
