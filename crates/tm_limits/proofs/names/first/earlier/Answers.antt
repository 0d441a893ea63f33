use Rattle.tm_limits.proofs.LongNames.{earliest-joins}
use Rattle.tm_limits.proofs.names.first.earlier.Goals as goal

pub returns : goal.returns
returns c = earliest-joins _ _ _ c.earlier_of.ensures
