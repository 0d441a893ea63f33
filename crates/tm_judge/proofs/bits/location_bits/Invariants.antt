-- The bits of the locations so far, at most 64 for each process.
use Rattle.std.proofs.Common.{◌≡◌, ◌≤◌, ◌*◌, take}
use Rattle.std.specs.Prelude.{sum_by}
use Rattle.tm_syntax.specs.Design.Sizes.{bits_of_number}
use Rattle.tm_locations.specs.declared.table.Locations.{Locations}
use Rattle.tm_states.specs.States.{end_of}
use Rattle.tm_judge.proofs.bits.location_bits.Given as goal

abbrev pub invariant-loop-table : goal.invariant-loop-table
invariant-loop-table l = record {
  so_far : l.bits ≡ sum_by (λ (t : Locations). bits_of_number (end_of t)) (take l.table-index l.locations);
  few : l.bits ≤ 64 * l.table-index;
}
