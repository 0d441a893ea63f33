use Rattle.std.proofs.Common.{[], ◌∷◌, subst}
use Rattle.std.specs.Prelude.{⊤}
use Rattle.std.proofs.lemmas.Option.{MatchOption-at_none, MatchOption-at_some}
use Rattle.std.proofs.lemmas.Result.{IfOk-weaker}
use Rattle.tm_syntax.specs.declared.fault.FaultKind.TheVariants as kind
use Rattle.tm_syntax.specs.declared.member.Member.{Member}
use Rattle.tm_syntax.specs.declared.tree.Spec.{Spec}
use Rattle.tm_syntax.specs.Tree.{SpecTree}
use Rattle.tm_syntax.specs.Tree.View.{spec_tree}
use Rattle.tm_syntax.specs.Scopes.Calls.{Reaches}
use Rattle.tm_types.specs.Answer.{IsFirstOf}
use Rattle.tm_types.proofs.FirstOfKinds.{first_among, first_then}
use Rattle.tm_types.proofs.stages.call_fault.Goals as goal

pub returns-in-Ok-Some : goal.returns-in-Ok-Some
returns-in-Ok-Some c =
    let spec : SpecTree = spec_tree c.args.spec.now in
    let free : (m : Member) → ¬ Reaches spec m m =
    subst (λ (s : Spec). (m : Member) → ¬ Reaches (spec_tree s) m m) c.requires
    (MatchOption-at_some ⊤ (λ _. (m : Member) → ¬ Reaches (spec_tree c.args.scopes.now) m m) c.in-Ok-Some.order
    c.in-Ok-Some.field-0-is c.in-Ok-Some.ensures.acyclic) in
    IfOk-weaker c.crossing_fault.result (IsFirstOf (kind.LoopWithoutLocation ∷ kind.LocationInAtomic ∷ []) spec)
    (IsFirstOf (kind.CallCycle ∷ kind.LoopWithoutLocation ∷ kind.LocationInAtomic ∷ []) spec)
    (λ r first. first_then (kind.CallCycle ∷ []) (kind.LoopWithoutLocation ∷ kind.LocationInAtomic ∷ []) spec r
    (free, tt) first)
    c.crossing_fault.ensures

pub returns-in-Ok-None : goal.returns-in-Ok-None
returns-in-Ok-None c =
    let spec : SpecTree = spec_tree c.args.spec.now in
    let looping : (m : Member) × Reaches spec m m =
    subst (λ (s : Spec). (m : Member) × Reaches (spec_tree s) m m) c.requires
    (MatchOption-at_none ((m : Member) × Reaches (spec_tree c.args.scopes.now) m m) (λ _. ⊤) c.in-Ok-None.field-0-is
    c.in-Ok-None.ensures.cyclic) in
    IfOk-weaker c.cycle_fault.result (IsFirstOf (kind.CallCycle ∷ []) spec)
    (IsFirstOf (kind.CallCycle ∷ kind.LoopWithoutLocation ∷ kind.LocationInAtomic ∷ []) spec)
    (λ r first. first_among (kind.CallCycle ∷ []) (kind.LoopWithoutLocation ∷ kind.LocationInAtomic ∷ []) spec r
    (λ free. free.0 looping.0 looping.1) first)
    c.cycle_fault.ensures
