use Rattle.std.proofs.Common.{Option, List, [], ◌∷◌, subst}
use Rattle.std.proofs.lemmas.Result.{IfOk-weaker}
use Rattle.tm_syntax.specs.declared.fault.FaultKind.{FaultKind}
use Rattle.tm_syntax.specs.declared.fault.FaultKind.TheVariants as kind
use Rattle.tm_syntax.specs.declared.fault.Faulty.{Faulty}
use Rattle.tm_syntax.specs.Tree.{SpecTree}
use Rattle.tm_syntax.specs.Tree.View.{spec_tree}
use Rattle.tm_types.specs.Answer.{IsFirstOf, type_kinds}
use Rattle.tm_types.proofs.FirstOfKinds.{first_here, first_then}
use Rattle.tm_types.proofs.stages.type_fault.Goals as goal

-- the kinds of faults of names and values, and of calls and loops
abbrev text_kinds : List FaultKind
text_kinds = kind.UnknownName ∷ kind.Twice ∷ kind.Mismatch ∷ kind.Literal ∷ []

abbrev call_kinds : List FaultKind
call_kinds = kind.CallCycle ∷ kind.LoopWithoutLocation ∷ kind.LocationInAtomic ∷ []

pub returns-in-Ok-Some : goal.returns-in-Ok-Some
returns-in-Ok-Some c =
    let spec : SpecTree = spec_tree c.args.spec.now in
    first_here text_kinds call_kinds spec c.in-Ok-Some.fault
    (subst (λ (o : Option Faulty). IsFirstOf text_kinds spec o) c.in-Ok-Some.field-0-is c.in-Ok-Some.ensures)

pub returns-in-Ok-None : goal.returns-in-Ok-None
returns-in-Ok-None c =
    let spec : SpecTree = spec_tree c.args.spec.now in
    IfOk-weaker c.call_fault.result (IsFirstOf call_kinds spec) (IsFirstOf type_kinds spec)
    (λ r first. first_then text_kinds call_kinds spec r
    (subst (λ (o : Option Faulty). IsFirstOf text_kinds spec o) c.in-Ok-None.field-0-is c.in-Ok-None.ensures)
    first)
    c.call_fault.ensures
