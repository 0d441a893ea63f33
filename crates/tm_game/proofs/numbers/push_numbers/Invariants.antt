use Rattle.std.proofs.Common.{◌≡◌, ◌++◌}
use Rattle.std.specs.Slice.Iter.{iter_rest}
use Rattle.std.specs.Iterator.Adapters.{zip_first, zip_second}
use Rattle.tm_sem.specs.StateBits.{bits_of_numbers}
use Rattle.tm_game.proofs.numbers.push_numbers.Given as goal

abbrev pub invariant-loop-width : goal.invariant-loop-width
invariant-loop-width l =
    l.bits.items
    ++ bits_of_numbers (iter_rest (zip_first l.width-iterator)) (iter_rest (zip_second l.width-iterator))
    ≡ l.fn.bits.items ++ bits_of_numbers l.widths l.numbers
