use Rattle.tm_game.proofs.Restoring.{AreStepsPut}
use Rattle.tm_game.proofs.restore.put_steps.Given as goal

abbrev pub invariant-loop-step : goal.invariant-loop-step
invariant-loop-step l = AreStepsPut l.ids l.at l.fn.steps.items l.step-items l.step-index l.behind
