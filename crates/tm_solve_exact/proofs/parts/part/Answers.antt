use Rattle.std.proofs.Common.{◌<◌, List, length, subst, sym}
use Rattle.std.proofs.lemmas.Result.{IfOk-weaker}
use Rattle.tm_dd.specs.declared.node.NodeId.{NodeId}
use Rattle.tm_solve.proofs.Following.{follows_then}
use Rattle.tm_game.proofs.Growing.{grows_then}
use Rattle.tm_solve_exact.proofs.Parted.{part_told}
use Rattle.tm_solve_exact.proofs.parts.part.Goals as goal

pub reach-requires-clause-z : goal.reach-requires-clause-z
reach-requires-clause-z c = c.wait.ensures.follows.extends.known c.args.z c.requires.z

pub reach-requires-clause-goal : goal.reach-requires-clause-goal
reach-requires-clause-goal c =
    subst (λ (ids : List NodeId). c.args.goal < length ids) (sym c.wait.ensures.grows.goals) c.requires.goal

pub stay-requires-clause-set : goal.stay-requires-clause-set
stay-requires-clause-set c =
    c.reach.ensures.follows.extends.known c.args.y (c.wait.ensures.follows.extends.known c.args.y c.requires.y)

pub either-requires-clause-a : goal.either-requires-clause-a
either-requires-clause-a c =
    c.stay.ensures.follows.extends.known c.in_ok-reaches.reaches c.in_ok-reaches.ensures.value.known

pub either-requires-clause-b : goal.either-requires-clause-b
either-requires-clause-b c = c.in_ok-near.ensures.value.known

pub either-requires-2-clause-a : goal.either-requires-2-clause-a
either-requires-2-clause-a c = c.in_ok-some.ensures.value.known

pub either-requires-2-clause-b : goal.either-requires-2-clause-b
either-requires-2-clause-b c =
    c.either.ensures.follows.extends.known c.in_ok-waits.waits
    (c.stay.ensures.follows.extends.known c.in_ok-waits.waits
    (c.reach.ensures.follows.extends.known c.in_ok-waits.waits c.in_ok-waits.ensures.value.known))

pub returns-clause-value : goal.returns-clause-value
returns-clause-value c =
    IfOk-weaker c.either-2.result _ _
    (λ id is.
    part_told c.args.game.now c.wait.new.game c.reach.new.game c.stay.new.game c.either.new.game c.either-2.new.game
    c.requires.of c.wait.ensures.grows c.reach.ensures.grows c.wait.ensures.follows c.reach.ensures.follows
    c.stay.ensures.follows c.either.ensures.follows c.args.z c.args.y c.args.x c.args.goal c.args.fair c.requires.z
    c.requires.y c.in_ok-waits.waits c.in_ok-reaches.reaches c.in_ok-near.near c.in_ok-some.some id
    c.in_ok-waits.ensures.value c.in_ok-reaches.ensures.value c.in_ok-near.ensures.value c.in_ok-some.ensures.value is)
    c.either-2.ensures.value

pub returns-clause-follows : goal.returns-clause-follows
returns-clause-follows c =
    follows_then c.wait.ensures.follows
    (follows_then c.reach.ensures.follows
    (follows_then c.stay.ensures.follows (follows_then c.either.ensures.follows c.either-2.ensures.follows)))

pub returns-clause-grows : goal.returns-clause-grows
returns-clause-grows c =
    let far = grows_then _ _ _ c.wait.ensures.grows c.reach.ensures.grows in
    let near = grows_then _ _ _ far c.stay.ensures.grows in
    grows_then _ _ _ (grows_then _ _ _ near c.either.ensures.grows) c.either-2.ensures.grows

pub returns-in_err-reaches-clause-follows : goal.returns-in_err-reaches-clause-follows
returns-in_err-reaches-clause-follows c = follows_then c.wait.ensures.follows c.reach.ensures.follows

pub returns-in_err-near-clause-follows : goal.returns-in_err-near-clause-follows
returns-in_err-near-clause-follows c =
    follows_then c.wait.ensures.follows (follows_then c.reach.ensures.follows c.stay.ensures.follows)

pub returns-in_err-near-clause-grows : goal.returns-in_err-near-clause-grows
returns-in_err-near-clause-grows c =
    grows_then _ _ _ (grows_then _ _ _ c.wait.ensures.grows c.reach.ensures.grows) c.stay.ensures.grows

pub returns-in_err-some-clause-follows : goal.returns-in_err-some-clause-follows
returns-in_err-some-clause-follows c =
    follows_then c.wait.ensures.follows
    (follows_then c.reach.ensures.follows (follows_then c.stay.ensures.follows c.either.ensures.follows))

pub returns-in_err-some-clause-grows : goal.returns-in_err-some-clause-grows
returns-in_err-some-clause-grows c =
    let far = grows_then _ _ _ c.wait.ensures.grows c.reach.ensures.grows in
    grows_then _ _ _ (grows_then _ _ _ far c.stay.ensures.grows) c.either.ensures.grows
