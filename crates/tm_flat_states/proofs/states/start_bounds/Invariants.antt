use Rattle.std.proofs.Common.{◌≡◌, map, take}
use Rattle.tm_locations.specs.declared.table.Locations.{Locations}
use Rattle.tm_flat_states.specs.declared.bounds.Bound.TheVariants.{Exactly}
use Rattle.tm_flat_states.proofs.states.start_bounds.Given as goal

abbrev pub invariant-loop-table : goal.invariant-loop-table
invariant-loop-table l = l.starts.items ≡ map (λ (_ : Locations). Exactly 0) (take l._table-index l.tables)
