use Rattle.std.proofs.Common.{List, length, sym, subst}
use Rattle.tm_locations.specs.declared.table.Locations.{Locations}
use Rattle.tm_plain.specs.Machine.{AreLocated}
use Rattle.tm_flat_design.proofs.updates.flatten_by.Goals as goal

pub flatten_in-flat-requires-clause-located : goal.flatten_in-flat-requires-clause-located
flatten_in-flat-requires-clause-located c =
    let d = c.args.tables.now in
    subst (λ (all : List Locations). AreLocated d (length d.processes.items) all) (sym c.as_slice.ensures.value)
    c.in-Ok.ensures
