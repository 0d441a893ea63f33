use Rattle.std.proofs.Common.{◌≡◌, ◌<◌, ◌^◌, drop}
use Rattle.tm_play.specs.Numbers.{digits_after}
use Rattle.tm_play.proofs.input.number.read_digits.Given as goal

abbrev pub invariant-loop-digit : goal.invariant-loop-digit
invariant-loop-digit l = (digits_after l.n (drop l.digit-index l.field) ≡ digits_after 0 l.field) × (l.n < 2 ^ 64)
