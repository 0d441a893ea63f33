use Rattle.std.proofs.Common.{◌≡◌}
use Rattle.tm_verdict.proofs.DriverParts.{meets_of_parts, parts_pass}
use Rattle.tm_verdict.proofs.verdict_laws.drivers_pass_part_by_part.Goals as goal

pub returns : goal.returns
returns c =
    λ d answers cert same waits. (
      parts_pass d (λ s g move. answers s g ≡ move) cert same,
      meets_of_parts d (λ s g move. answers s g ≡ move) cert same waits,
    )
