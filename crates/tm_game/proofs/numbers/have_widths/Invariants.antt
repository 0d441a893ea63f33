use Rattle.std.proofs.Common.{◌≡◌}
use Rattle.std.specs.List.{list_all, zip}
use Rattle.std.specs.Slice.Iter.{iter_rest}
use Rattle.std.specs.Iterator.Adapters.{zip_first, zip_second}
use Rattle.tm_game.proofs.Writing.{has_its_width}
use Rattle.tm_game.proofs.numbers.have_widths.Given as goal

abbrev pub invariant-loop-width : goal.invariant-loop-width
invariant-loop-width l =
    list_all has_its_width
    (zip (iter_rest (zip_first l.width-iterator)) (iter_rest (zip_second l.width-iterator)))
    ≡ list_all has_its_width (zip l.widths l.numbers)
