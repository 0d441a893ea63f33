use Rattle.std.proofs.Common.{◌≡◌, take}
use Rattle.tm_base.specs.Bits.{number_of}
use Rattle.tm_game.proofs.numbers.number_of.Given as goal

abbrev pub invariant-loop-bit : goal.invariant-loop-bit
invariant-loop-bit l = l.number ≡ number_of (take l.bit-index l.bits)
