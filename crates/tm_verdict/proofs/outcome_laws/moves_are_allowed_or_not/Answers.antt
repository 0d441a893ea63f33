use Rattle.tm_verdict.proofs.Deciding.{allowed_or_not}
use Rattle.tm_verdict.proofs.outcome_laws.moves_are_allowed_or_not.Goals as goal

pub returns : goal.returns
returns c = allowed_or_not
