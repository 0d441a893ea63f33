use Rattle.std.proofs.Common.{All, take}
use Rattle.tm_game_bits.specs.Diagrams.{KnowsStep}
use Rattle.test_game.proofs.forcing.known.knows_steps.Given as goal

abbrev pub invariant-loop-step : goal.invariant-loop-step
invariant-loop-step l = All (KnowsStep l.dd.table) (take l.step-index l.steps)
