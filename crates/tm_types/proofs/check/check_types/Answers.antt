use Rattle.std.proofs.Common.{Option, subst}
use Rattle.tm_syntax.specs.declared.fault.Faulty.{Faulty}
use Rattle.tm_syntax.specs.Tree.{SpecTree}
use Rattle.tm_syntax.specs.Tree.View.{spec_tree}
use Rattle.tm_syntax.proofs.Faults.{tree_faults_agree}
use Rattle.tm_types.specs.Answer.{HasTypeFault, IsFirstOf, type_kinds}
use Rattle.tm_types.proofs.FirstOfKinds.{type_fault}
use Rattle.tm_types.proofs.FreeTrees.{none_has}
use Rattle.tm_types.proofs.check.check_types.Goals as goal

pub returns-in-Ok-None-clause-told : goal.returns-in-Ok-None-clause-told
returns-in-Ok-None-clause-told c = λ f fault.
    let spec : SpecTree = spec_tree c.args.spec in
    none_has spec f
    (subst (λ (o : Option Faulty). IsFirstOf type_kinds spec o) c.in-Ok-None.field-0-is c.in-Ok-None.ensures) fault

pub returns-in-Ok-Some-clause-faulty : goal.returns-in-Ok-Some-clause-faulty
returns-in-Ok-Some-clause-faulty c =
    let spec : SpecTree = spec_tree c.args.spec in
    type_fault spec c.in-Ok-Some.fault
    (subst (λ (o : Option Faulty). IsFirstOf type_kinds spec o) c.in-Ok-Some.field-0-is c.in-Ok-Some.ensures)

pub returns-in-Ok-Some-clause-told : goal.returns-in-Ok-Some-clause-told
returns-in-Ok-Some-clause-told c = λ f fault.
    let spec : SpecTree = spec_tree c.args.spec in
    let told : HasTypeFault spec c.in-Ok-Some.fault =
    type_fault spec c.in-Ok-Some.fault
    (subst (λ (o : Option Faulty). IsFirstOf type_kinds spec o) c.in-Ok-Some.field-0-is c.in-Ok-Some.ensures) in
    tree_faults_agree spec c.in-Ok-Some.fault f told.is fault.is
