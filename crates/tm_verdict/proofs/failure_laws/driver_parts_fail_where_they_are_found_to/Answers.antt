use Rattle.std.proofs.Common.{◌≡◌}
use Rattle.tm_verdict.proofs.DriverFailures.{fails, found}
use Rattle.tm_verdict.proofs.failure_laws.driver_parts_fail_where_they_are_found_to.Goals as goal

pub returns : goal.returns
returns c =
    λ d answers cert regular driver part rests s. (
      found d regular (λ s g move. answers s g ≡ move) driver cert part rests s,
      λ both. fails d regular (λ s g move. answers s g ≡ move) driver cert part rests s both.0 both.1,
    )
