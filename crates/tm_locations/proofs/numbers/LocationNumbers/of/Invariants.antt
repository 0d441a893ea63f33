use Rattle.std.proofs.Common.{◌≡◌, position, take}
use Rattle.tm_locations.specs.Inner.Numbers.{first_at, is_row_at}
use Rattle.tm_locations.specs.declared.numbers.Arrival.{Arrival}
use Rattle.tm_locations.proofs.numbers.LocationNumbers.of.Given as goal

abbrev pub invariant-loop-index : goal.invariant-loop-index
invariant-loop-index l =
    (a : Arrival) → first_at l.numbers a ≡ position (is_row_at a.at a.trail) (take l.index l.rows)
