use Rattle.tm_verdict.proofs.Deciding.{calm_or_leads, keeps_or_leads}
use Rattle.tm_verdict.proofs.outcome_laws.moves_keep_or_lead_out.Goals as goal

pub returns : goal.returns
returns c = record { one = keeps_or_leads; environment = calm_or_leads }
