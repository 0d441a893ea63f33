use Rattle.tm_states.proofs.TypedValues.{values_below, bits_below}
use Rattle.tm_states.proofs.laws.values_are_of_their_types.Goals as goal

pub returns-clause-values : goal.returns-clause-values
returns-clause-values c = values_below

pub returns-clause-bits : goal.returns-clause-bits
returns-clause-bits c = bits_below
