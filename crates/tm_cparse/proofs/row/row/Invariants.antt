use Rattle.std.proofs.Common.{◌≤◌, drop, length}
use Rattle.tm_cparse.specs.View.{tokens_of}
use Rattle.tm_cparse.specs.Inner.Reading.{Moves}
use Rattle.tm_cparse.specs.Inner.Rows.{IsRow, IsRowLeft}
use Rattle.tm_cparse.proofs.row.row.Given as goal

abbrev pub invariant-loop-slot : goal.invariant-loop-slot
invariant-loop-slot l =
    Moves (IsRow l.slots) (IsRowLeft (drop l.slot-index l.slots) l.numbers.items) (tokens_of l.spots)
    (tokens_of l.rest) × (length l.rest ≤ length l.spots)
