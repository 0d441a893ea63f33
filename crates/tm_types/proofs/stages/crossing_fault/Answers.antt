use Rattle.std.proofs.Common.{Option, [], ◌∷◌, subst}
use Rattle.std.proofs.lemmas.Result.{IfOk-weaker}
use Rattle.tm_syntax.specs.declared.fault.FaultKind.TheVariants as kind
use Rattle.tm_syntax.specs.declared.fault.Faulty.{Faulty}
use Rattle.tm_syntax.specs.Tree.{SpecTree}
use Rattle.tm_syntax.specs.Tree.View.{spec_tree}
use Rattle.tm_types.specs.Answer.{IsFirstOf}
use Rattle.tm_types.proofs.FirstOfKinds.{first_here, first_then}
use Rattle.tm_types.proofs.stages.crossing_fault.Goals as goal

pub returns-in-Ok-Some : goal.returns-in-Ok-Some
returns-in-Ok-Some c =
    let spec : SpecTree = spec_tree c.args.spec.now in
    first_here (kind.LoopWithoutLocation ∷ []) (kind.LocationInAtomic ∷ []) spec c.in-Ok-Some.fault
    (subst (λ (o : Option Faulty). IsFirstOf (kind.LoopWithoutLocation ∷ []) spec o) c.in-Ok-Some.field-0-is
    c.in-Ok-Some.ensures)

pub returns-in-Ok-None : goal.returns-in-Ok-None
returns-in-Ok-None c =
    let spec : SpecTree = spec_tree c.args.spec.now in
    IfOk-weaker c.location_fault.result (IsFirstOf (kind.LocationInAtomic ∷ []) spec)
    (IsFirstOf (kind.LoopWithoutLocation ∷ kind.LocationInAtomic ∷ []) spec)
    (λ r first. first_then (kind.LoopWithoutLocation ∷ []) (kind.LocationInAtomic ∷ []) spec r
    (subst (λ (o : Option Faulty). IsFirstOf (kind.LoopWithoutLocation ∷ []) spec o) c.in-Ok-None.field-0-is
    c.in-Ok-None.ensures)
    first)
    c.location_fault.ensures
