use Rattle.tm_verdict.proofs.LevelFailures.{fails, found}
use Rattle.tm_verdict.proofs.environment.level_parts_fail_where_they_are_found_to.Goals as goal

pub returns : goal.returns
returns c =
    λ d levels regular part rests s.
    (found d regular levels part rests s, λ both. fails d regular levels part s both.0 both.1)
