-- The number is that of the trail behind the calls so far.
use Rattle.std.proofs.Common.{List, ◌++◌, reverse, take}
use Rattle.tm_base.specs.declared.place.Place.{Place}
use Rattle.tm_locations.specs.Locations.{IsTrail, table_of}
use Rattle.tm_plain.proofs.machine.rests.location_behind.Given as goal

abbrev pub invariant-loop-call : goal.invariant-loop-call
invariant-loop-call l =
    (trail : List Place) → IsTrail (table_of l.locations).trails l.before trail →
    IsTrail (table_of l.locations).trails l.number (reverse (take l.call-index l.call-items) ++ trail)
