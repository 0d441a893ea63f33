use Rattle.tm_states.proofs.StateLaws.{initial_valid}
use Rattle.tm_states.proofs.laws.initial_states_are_valid.Goals as goal

pub returns : goal.returns
returns c = initial_valid
