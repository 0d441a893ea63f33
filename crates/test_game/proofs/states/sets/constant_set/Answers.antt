use Rattle.tm_game.proofs.MadeSets.{false_set, true_set}
use Rattle.test_game.proofs.states.sets.constant_set.Goals as goal

pub returns-then-is_full : goal.returns-then-is_full
returns-then-is_full c = true_set

pub returns-else-is_full : goal.returns-else-is_full
returns-else-is_full c = false_set
