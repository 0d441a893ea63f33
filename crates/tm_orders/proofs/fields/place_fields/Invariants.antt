use Rattle.std.proofs.Common.{◌≡◌, map, take}
use Rattle.tm_locations.specs.declared.table.Locations.{Locations}
use Rattle.tm_orders.specs.Fields.{field_to}
use Rattle.tm_orders.proofs.fields.place_fields.Given as goal
use Rattle.tm_states.specs.States.{end_of}

abbrev pub invariant-loop-table : goal.invariant-loop-table
invariant-loop-table l = l.all.items ≡ map (λ (t : Locations). field_to (end_of t)) (take l.table-index l.tables)
