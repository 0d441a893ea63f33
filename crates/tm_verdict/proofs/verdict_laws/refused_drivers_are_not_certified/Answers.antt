use Rattle.std.proofs.Common.{◌≡◌}
use Rattle.tm_verdict.proofs.RefusedDrivers.{refused_is_none}
use Rattle.tm_verdict.proofs.verdict_laws.refused_drivers_are_not_certified.Goals as goal

pub returns : goal.returns
returns c = λ d answers cert. refused_is_none d (λ s g move. answers s g ≡ move) cert
