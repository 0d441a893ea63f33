use Rattle.tm_syntax.specs.declared.fault.FaultKind.TheVariants as kind
use Rattle.tm_syntax.specs.Tree.{SpecTree}
use Rattle.tm_syntax.specs.Tree.View.{spec_tree}
use Rattle.tm_syntax.specs.Faults.Crossings.{atomic_locations}
use Rattle.tm_types.proofs.FirstOfKinds.{of_places}
use Rattle.tm_types.proofs.ToldCalls.{pausing_told}
use Rattle.tm_types.proofs.stages.location_fault.Goals as goal

pub returns : goal.returns
returns c =
    let spec : SpecTree = spec_tree c.args.spec.now in
    of_places kind.LocationInAtomic spec (atomic_locations spec) (λ e. e) (λ m e. e) c.in-Ok-found.given
    c.in-Ok-found.ensures
    c.placed.result c.placed.ensures

pub first_atomic_location-found-requires-clause-marked : goal.first_atomic_location-found-requires-clause-marked
first_atomic_location-found-requires-clause-marked c =
    pausing_told c.args.spec.now c.args.scopes.now c.args.order.now c.in-Ok.given c.requires.same
    c.requires.covers
    c.in-Ok.ensures
