use Rattle.std.proofs.Common.{◌≡◌, ◌+◌, ℕ}
use Rattle.tm_syntax.specs.Design.Sizes.{bits_of_number}
use Rattle.tm_limits.specs.Amount.{capped}
use Rattle.tm_limits.proofs.Bits.{bits_from}
use Rattle.tm_limits.proofs.sizes.bits_of_number.Given as goal

abbrev pub invariant-loop-bits : goal.invariant-loop-bits
invariant-loop-bits l = (n : ℕ) → l.number ≡ capped n → bits_of_number n ≡ l.bits + bits_from n l.bits
