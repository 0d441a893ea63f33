use Rattle.tm_syntax.specs.declared.fault.FaultKind.TheVariants as kind
use Rattle.tm_syntax.specs.Tree.{SpecTree}
use Rattle.tm_syntax.specs.Tree.View.{spec_tree}
use Rattle.tm_syntax.specs.Faults.Crossings.{endless_loops}
use Rattle.tm_types.proofs.FirstOfKinds.{of_places}
use Rattle.tm_types.proofs.ToldCalls.{crossing_told}
use Rattle.tm_types.proofs.stages.loop_fault.Goals as goal

pub returns : goal.returns
returns c =
    let spec : SpecTree = spec_tree c.args.spec.now in
    of_places kind.LoopWithoutLocation spec (endless_loops spec) (λ e. e) (λ m e. e) c.in-Ok-found.given
    c.in-Ok-found.ensures
    c.placed.result c.placed.ensures

pub first_endless_loop-found-requires-clause-marked : goal.first_endless_loop-found-requires-clause-marked
first_endless_loop-found-requires-clause-marked c =
    crossing_told c.args.spec.now c.args.scopes.now c.args.order.now c.in-Ok.given c.requires.same
    c.requires.covers
    c.in-Ok.ensures
