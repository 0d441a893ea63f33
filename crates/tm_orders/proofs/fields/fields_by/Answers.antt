use Rattle.std.proofs.Common.{List, length, sym, subst}
use Rattle.tm_locations.specs.declared.table.Locations.{Locations}
use Rattle.tm_plain.specs.Machine.{AreLocated}
use Rattle.tm_orders.proofs.fields.fields_by.Goals as goal

pub fields_in-requires-clause-located : goal.fields_in-requires-clause-located
fields_in-requires-clause-located c =
    let d = c.args.tables.now in
    subst (λ (all : List Locations). AreLocated d (length d.processes.items) all) (sym c.as_slice.ensures.value)
    c.in_ok-locations.ensures
