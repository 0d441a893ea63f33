use Rattle.std.proofs.Common.{List, length, sym, subst}
use Rattle.tm_locations.specs.declared.table.Locations.{Locations}
use Rattle.tm_plain.specs.Machine.{AreLocated}
use Rattle.tm_flat_design.proofs.widths.inputs_by.Goals as goal

pub inputs_in-widths-requires-clause-located : goal.inputs_in-widths-requires-clause-located
inputs_in-widths-requires-clause-located c =
    let d = c.args.tables.now in
    subst (λ (all : List Locations). AreLocated d (length d.processes.items) all) (sym c.as_slice.ensures.value)
    c.in-Ok.ensures
