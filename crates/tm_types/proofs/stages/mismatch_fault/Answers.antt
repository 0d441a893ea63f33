use Rattle.tm_syntax.specs.declared.fault.FaultKind.TheVariants as kind
use Rattle.tm_syntax.specs.Tree.{SpecTree}
use Rattle.tm_syntax.specs.Tree.View.{spec_tree}
use Rattle.tm_syntax.specs.Faults.Mismatches.{mismatches}
use Rattle.tm_types.proofs.FirstOfKinds.{of_places}
use Rattle.tm_types.proofs.stages.mismatch_fault.Goals as goal

pub returns : goal.returns
returns c =
    let spec : SpecTree = spec_tree c.args.spec.now in
    of_places kind.Mismatch spec (mismatches spec) (λ e. e) (λ m e. e) c.in-Ok.given c.in-Ok.ensures
    c.placed.result c.placed.ensures
