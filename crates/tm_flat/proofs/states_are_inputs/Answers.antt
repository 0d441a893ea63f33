use Rattle.tm_flat.proofs.Ranges.{are_inputs}
use Rattle.tm_flat.proofs.states_are_inputs.Goals as goal

pub returns : goal.returns
returns c = are_inputs
