use Rattle.std.proofs.Common.{◌≡◌, ◌++◌, take}
use Rattle.tm_game.specs.Inner.Listed.{steps_ids}
use Rattle.tm_game.proofs.gather.push_steps.Given as goal

abbrev pub invariant-loop-step : goal.invariant-loop-step
invariant-loop-step l = l.ids.items ≡ l.fn.ids.items ++ steps_ids (take l.step-index l.steps)
