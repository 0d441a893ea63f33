use Rattle.std.proofs.Common.{◌≡◌, map, take}
use Rattle.tm_locations.specs.declared.table.Locations.{Locations}
use Rattle.tm_states.specs.States.{end_of}
use Rattle.tm_flat_states.specs.declared.bounds.Bound.TheVariants.{AtMost}
use Rattle.tm_flat_states.proofs.states.place_bounds.Given as goal

abbrev pub invariant-loop-table : goal.invariant-loop-table
invariant-loop-table l = l.places.items ≡ map (λ (t : Locations). AtMost (end_of t)) (take l.table-index l.tables)
