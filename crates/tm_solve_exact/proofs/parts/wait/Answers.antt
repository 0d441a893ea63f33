use Rattle.std.proofs.Common.{◌&&◌, not, ap, sym, subst, ◌∙◌, ◌<◌, List, length}
use Rattle.std.proofs.Math.Bool.{and_comm}
use Rattle.std.proofs.Math.Logic.{∥∥₁_elim}
use Rattle.std.proofs.lemmas.Result.{IfOk-weaker}
use Rattle.tm_dd.specs.declared.node.NodeId.{NodeId}
use Rattle.tm_dd.specs.declared.node.TheConstants.{FALSE}
use Rattle.tm_sem.specs.Fairness.{IsFair}
use Rattle.tm_solve.specs.Game.{Game}
use Rattle.tm_solve.proofs.Following.{follows_then}
use Rattle.tm_solve_exact.specs.Exact.{exact_game, exact_ids, exact_operator, set_of}
use Rattle.tm_solve_exact.proofs.Growing.{states_set}
use Rattle.tm_game.proofs.Growing.{grows_then}
use Rattle.tm_solve_exact.proofs.Parted.{changed, fair_same}
use Rattle.tm_solve_exact.proofs.Truncated.{set_prop}
use Rattle.tm_solve_exact.proofs.parts.wait.Goals as goal

pub fair-holds-requires : goal.fair-holds-requires
fair-holds-requires c =
    subst (λ (ids : List NodeId). c.args.fair < length ids) (sym c.stay.ensures.grows.fairs) c.requires.fair

pub rest-requires-clause-b : goal.rest-requires-clause-b
rest-requires-clause-b c =
    ∥∥₁_elim c.stay.ensures.of (set_prop _ _)
    (λ x. states_set x.0 c.stay.new.game x.1 (λ s. IsFair x.0 s c.args.fair) c.fair-holds.result
    (c.fair-holds.ensures.states x.0 x.1.ordered.of))

pub rest-requires-clause-a : goal.rest-requires-clause-a
rest-requires-clause-a c = c.in_ok-near.ensures.value.known

pub returns-clause-value : goal.returns-clause-value
returns-clause-value c =
    IfOk-weaker c.rest.result _ _
    (λ id is.
    changed (exact_game c.args.game.now).states (exact_game c.stay.new.game).states (exact_ids c.rest.new.game) id _ _
    (ap (λ (q : Game). q.states) c.stay.ensures.follows.game) is
    (λ s among.
    let first = ap (λ i. set_of c.stay.new.game i s) (c.fair-holds.ensures.value FALSE)
    ∙ fair_same c.args.game.now c.stay.new.game c.requires.of c.stay.ensures.grows c.args.fair s in
    let second = c.in_ok-near.ensures.value.means.same s among in
    (λ k. second k && not (first k))
    ∙ and_comm ((exact_operator c.args.game.now).stay (set_of c.args.game.now c.args.x) s)
    (not ((exact_operator c.args.game.now).fair c.args.fair s)))) c.rest.ensures.value

pub returns-clause-follows : goal.returns-clause-follows
returns-clause-follows c = follows_then c.stay.ensures.follows c.rest.ensures.follows

pub returns-clause-grows : goal.returns-clause-grows
returns-clause-grows c =
    grows_then c.args.game.now c.stay.new.game c.rest.new.game c.stay.ensures.grows c.rest.ensures.grows
