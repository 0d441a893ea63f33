use Rattle.std.proofs.Common.{◌≡◌, map, take}
use Rattle.tm_syntax.specs.Design.Sizes.{bits_of_number}
use Rattle.tm_locations.specs.declared.table.Locations.{Locations}
use Rattle.tm_states.specs.States.{end_of}
use Rattle.tm_flat_states.proofs.inputs.place_widths.Given as goal

abbrev pub invariant-loop-table : goal.invariant-loop-table
invariant-loop-table l =
    l.widths.items ≡ map (λ (t : Locations). bits_of_number (end_of t)) (take l.table-index l.tables)
