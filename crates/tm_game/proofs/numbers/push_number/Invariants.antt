use Rattle.std.proofs.Common.{◌≡◌, ◌++◌, ◌-◌}
use Rattle.tm_base.specs.Bits.{bits_of}
use Rattle.tm_game.proofs.numbers.push_number.Given as goal

abbrev pub invariant-loop-passed : goal.invariant-loop-passed
invariant-loop-passed l =
    l.bits.items ++ bits_of (l.width - l.passed) l.number ≡ l.fn.bits.items ++ bits_of l.width l.number
