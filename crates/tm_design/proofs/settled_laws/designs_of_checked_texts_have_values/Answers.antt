use Rattle.tm_design.proofs.SettledValues.{values}
use Rattle.tm_design.proofs.settled_laws.designs_of_checked_texts_have_values.Goals as goal

pub returns : goal.returns
returns c = values
