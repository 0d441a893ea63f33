use Rattle.std.proofs.Common.{Option, List, [], ◌∷◌, subst}
use Rattle.std.proofs.lemmas.Result.{IfOk-weaker}
use Rattle.tm_syntax.specs.declared.fault.FaultKind.{FaultKind}
use Rattle.tm_syntax.specs.declared.fault.FaultKind.TheVariants as kind
use Rattle.tm_syntax.specs.declared.fault.Faulty.{Faulty}
use Rattle.tm_syntax.specs.Tree.{SpecTree}
use Rattle.tm_syntax.specs.Tree.View.{spec_tree}
use Rattle.tm_types.specs.Answer.{IsFirstOf}
use Rattle.tm_types.proofs.FirstOfKinds.{first_here, first_then}
use Rattle.tm_types.proofs.stages.part_fault.Goals as goal

-- the kinds of faults of names, and of values
abbrev name_kinds : List FaultKind
name_kinds = kind.UnknownName ∷ kind.Twice ∷ []

abbrev value_kinds : List FaultKind
value_kinds = kind.Mismatch ∷ kind.Literal ∷ []

pub returns-in-Ok-Some : goal.returns-in-Ok-Some
returns-in-Ok-Some c =
    let spec : SpecTree = spec_tree c.args.spec.now in
    first_here name_kinds value_kinds spec c.in-Ok-Some.fault
    (subst (λ (o : Option Faulty). IsFirstOf name_kinds spec o) c.in-Ok-Some.field-0-is c.in-Ok-Some.ensures)

pub returns-in-Ok-None : goal.returns-in-Ok-None
returns-in-Ok-None c =
    let spec : SpecTree = spec_tree c.args.spec.now in
    IfOk-weaker c.value_fault.result (IsFirstOf value_kinds spec)
    (IsFirstOf (kind.UnknownName ∷ kind.Twice ∷ kind.Mismatch ∷ kind.Literal ∷ []) spec)
    (λ r first. first_then name_kinds value_kinds spec r
    (subst (λ (o : Option Faulty). IsFirstOf name_kinds spec o) c.in-Ok-None.field-0-is c.in-Ok-None.ensures)
    first)
    c.value_fault.ensures
