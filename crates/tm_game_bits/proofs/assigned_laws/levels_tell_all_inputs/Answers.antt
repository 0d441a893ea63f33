use Rattle.std.proofs.Common.{length}
use Rattle.tm_game_bits.specs.Inputs.{choice_level}
use Rattle.tm_game_bits.proofs.Coded.{state_told}
use Rattle.tm_game_bits.proofs.InputLevels.{are_bits, levels_fit, values_fit, values_told}
use Rattle.tm_game_bits.proofs.assigned_laws.levels_tell_all_inputs.Goals as goal

pub returns-clause-values : goal.returns-clause-values
returns-clause-values c = values_told

pub returns-clause-state : goal.returns-clause-state
returns-clause-state c = state_told

pub returns-clause-in_range : goal.returns-clause-in_range
returns-clause-in_range c = values_fit

pub returns-clause-choices : goal.returns-clause-choices
returns-clause-choices c = λ order v. are_bits v (choice_level order)

pub returns-clause-arguments : goal.returns-clause-arguments
returns-clause-arguments c = λ order v. are_bits v (length order)

pub returns-clause-levels : goal.returns-clause-levels
returns-clause-levels c = levels_fit
