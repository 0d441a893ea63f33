use Rattle.tm_flat.proofs.Wiring.{path_leads}
use Rattle.tm_flat.proofs.paths_lead_where_the_text_says.Goals as goal

pub returns : goal.returns
returns c = path_leads
