use Rattle.tm_abs.proofs.Whole.{lower_is_set, upper_is_set}
use Rattle.tm_abs.proofs.laws.whole_pools_part_nothing.Goals as goal

pub returns-clause-lower : goal.returns-clause-lower
returns-clause-lower c = lower_is_set

pub returns-clause-upper : goal.returns-clause-upper
returns-clause-upper c = upper_is_set
