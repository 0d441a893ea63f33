use Rattle.tm_verdict.proofs.RefusedLevels.{refused_is_none}
use Rattle.tm_verdict.proofs.verdict_laws.refused_environments_are_not_certified.Goals as goal

pub returns : goal.returns
returns c = refused_is_none
