use Rattle.std.proofs.Common.{◌≡◌}
use Rattle.tm_verdict.proofs.DriverPasses.{passes}
use Rattle.tm_verdict.proofs.failure_laws.driver_parts_that_fail_nowhere_pass.Goals as goal

pub returns : goal.returns
returns c = λ d answers cert regular part. passes d regular (λ s g move. answers s g ≡ move) cert part
