use Rattle.tm_flat.proofs.BitSteps.{bits_of_steps}
use Rattle.tm_flat.proofs.bits_lead_where_choices_lead.Goals as goal

pub returns-clause-choices : goal.returns-clause-choices
returns-clause-choices c = bits_of_steps
