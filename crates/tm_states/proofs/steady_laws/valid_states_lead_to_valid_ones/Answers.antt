use Rattle.tm_states.proofs.Stepping.{steps_valid}
use Rattle.tm_states.proofs.steady_laws.valid_states_lead_to_valid_ones.Goals as goal

pub returns : goal.returns
returns c = steps_valid
