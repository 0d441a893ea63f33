use Rattle.std.proofs.lemmas.Result.{IfOk-weaker}
use Rattle.tm_envcheck.proofs.Reporting.{initial_reported}
use Rattle.tm_game.proofs.SetTests.{states_set}
use Rattle.tm_sem.specs.Step.{IsInitial}
use Rattle.tm_envcheck.proofs.reports.fails.Goals as goal

pub fails_at-requires : goal.fails_at-requires
fails_at-requires c =
    states_set c.requires.design.0 c.args.game.now c.requires.design.1 c.requires.order (IsInitial c.requires.design.0)
    c.initial-initial.result
    (c.initial-initial.ensures.states c.requires.design.0 c.requires.design.1)

pub returns-clause-verdict : goal.returns-clause-verdict
returns-clause-verdict c =
    IfOk-weaker c.fails_at.result _ _
    (λ v verdict d can.
    initial_reported d c.args.game.now c.requires can c.initial-initial.result
    (c.initial-initial.ensures.states d can.of) c.args.condition c.args.goal v (verdict d can.of))
    c.fails_at.ensures.verdict
