use Rattle.std.proofs.lemmas.Result.{IfOk-weaker}
use Rattle.tm_envcheck.proofs.Growing.{can_kept, ready_kept}
use Rattle.tm_envcheck.proofs.Reporting.{begins_lost_tried, last_in}
use Rattle.tm_game.proofs.Growing.{grows_then}
use Rattle.tm_game.proofs.SetTests.{states_set}
use Rattle.tm_sem.specs.Step.{IsInitial}
use Rattle.tm_envcheck.proofs.check.beginning.Goals as goal

pub both-requires-clause-a : goal.both-requires-clause-a
both-requires-clause-a c =
    states_set c.requires.ready.design.0 c.args.game.now c.requires.ready.design.1 c.requires.ready.order
    (IsInitial c.requires.ready.design.0) c.initial-initial.result
    (c.initial-initial.ensures.states c.requires.ready.design.0 c.requires.ready.design.1)

pub both-requires-clause-b : goal.both-requires-clause-b
both-requires-clause-b c = last_in c.args.game.now c.args.levels.now c.requires.levels _ c.last_set-last.ensures

pub wants-requires-clause-ready : goal.wants-requires-clause-ready
wants-requires-clause-ready c = ready_kept c.args.game.now c.both.new.game c.both.ensures.grows c.requires.ready

pub returns-clause-grows : goal.returns-clause-grows
returns-clause-grows c = grows_then _ _ _ c.both.ensures.grows c.wants.ensures.grows

pub returns-clause-tried : goal.returns-clause-tried
returns-clause-tried c =
    IfOk-weaker c.wants.result _ _
    (λ v verdict d of can tell.
    begins_lost_tried d c.args.game.now c.requires.ready can c.initial-initial.result
    (c.initial-initial.ensures.states d can.of) of c.args.levels.now tell c.both.new.game c.both.ensures.grows
    c.in_ok-lost.lost _ c.last_set-last.ensures c.in_ok-lost.ensures.value v
    (verdict d (can_kept c.args.game.now c.both.new.game c.both.ensures.grows d can)))
    c.wants.ensures.verdict
