use Rattle.std.proofs.Common.{◌≡◌, ◌+◌, refl, arith}
use Rattle.tm_syntax.specs.Design.Sizes.{bits_of_number}
use Rattle.tm_limits.specs.Amount.{capped}
use Rattle.tm_limits.proofs.counts.with_last_bits.Goals as goal

pub returns : goal.returns
returns c = λ m n bits processes.
    let more : c.bits_of_number.result ≡ bits_of_number (n + 1) =
    c.bits_of_number.ensures (n + 1) (c.sum.ensures n 1 processes refl) in
    let fits = c.bits_of_number.type_inv in
    let same : c.bits_of_number.result ≡ capped (bits_of_number (n + 1)) = omega (arith, more, fits) in
    c.sum-2.ensures m (bits_of_number (n + 1)) bits same
