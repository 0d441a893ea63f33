use Rattle.std.proofs.Common.{◌≡◌, true}
use Rattle.std.proofs.lemmas.Result.{IfOk-weaker}
use Rattle.tm_envcheck.proofs.Growing.{ready_kept}
use Rattle.tm_envcheck.proofs.LevelParts.{forced_on_tried}
use Rattle.tm_game.proofs.Growing.{grows_then, of_kept, set_kept}
use Rattle.tm_game.proofs.SetTests.{states_set}
use Rattle.tm_sem.specs.Play.{goal_holds}
use Rattle.tm_envcheck.proofs.conditions.forced_on.Goals as goal

pub both-requires-clause-b : goal.both-requires-clause-b
both-requires-clause-b c =
    states_set c.requires.ready.design.0 c.args.game.now c.requires.ready.design.1 c.requires.ready.order
    (λ s. goal_holds c.requires.ready.design.0 s c.args.level.now.goal ≡ true) c.goal-holds.result
    (c.goal-holds.ensures.states c.requires.ready.design.0 c.requires.ready.design.1)

pub unforced-requires-clause-ready : goal.unforced-requires-clause-ready
unforced-requires-clause-ready c = ready_kept c.args.game.now c.both.new.game c.both.ensures.grows c.requires.ready

pub unforced-requires-clause-target : goal.unforced-requires-clause-target
unforced-requires-clause-target c =
    set_kept c.args.game.now c.both.new.game c.both.ensures.grows _ c.requires.level.before

pub returns-in_err-failing-clause-grows : goal.returns-in_err-failing-clause-grows
returns-in_err-failing-clause-grows c = grows_then _ _ _ c.both.ensures.grows c.unforced.ensures.grows

pub returns-clause-grows : goal.returns-clause-grows
returns-clause-grows c =
    grows_then _ _ _ c.both.ensures.grows (grows_then _ _ _ c.unforced.ensures.grows c.fails_at.ensures.grows)

pub returns-clause-tried : goal.returns-clause-tried
returns-clause-tried c =
    IfOk-weaker c.fails_at.result _ _
    (λ v verdict d of k can tells.
    let later = of_kept c.args.game.now c.both.new.game c.both.ensures.grows d can.of in
    forced_on_tried d c.args.game.now of k c.args.level.now tells can c.requires.level c.requires.ready
    c.both.new.game c.both.ensures.grows c.goal-holds.result c.in_ok-here.here c.in_ok-failing.failing
    (c.goal-holds.ensures.states d can.of) c.in_ok-here.ensures.value c.unforced.new.game
    (c.in_ok-failing.ensures.value d later) (c.in_ok-failing.ensures.decided d later) v
    (verdict d (of_kept c.both.new.game c.unforced.new.game c.unforced.ensures.grows d later)))
    c.fails_at.ensures.verdict
