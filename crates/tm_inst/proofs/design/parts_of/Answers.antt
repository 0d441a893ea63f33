use Rattle.std.proofs.Common.{IfErr, IfOk, sym, subst}
use Rattle.tm_syntax.specs.declared.tree.Spec.{Spec}
use Rattle.tm_syntax.specs.Tree.View.{spec_tree}
use Rattle.tm_syntax.specs.Faults.{HasTreeFault, IsTyped}
use Rattle.tm_inst.specs.Answer.{IsMemoryOr}
use Rattle.tm_inst.specs.Inner.Parts.{HasSoundParts}
use Rattle.tm_inst.specs.ShortTexts.{IsOfShortText}
use Rattle.tm_inst.proofs.design.parts_of.Goals as goal

pub parts_in-parts-requires-clause-typed : goal.parts_in-parts-requires-clause-typed
parts_in-parts-requires-clause-typed c =
    subst (λ (s : Spec). IsTyped (spec_tree s)) (sym c.in-Ok.ensures) c.requires.typed

pub parts_in-parts-requires-clause-short : goal.parts_in-parts-requires-clause-short
parts_in-parts-requires-clause-short c =
    subst (λ (s : Spec). IsOfShortText (spec_tree s)) (sym c.in-Ok.ensures) c.requires.short

pub returns-clause-ok : goal.returns-clause-ok
returns-clause-ok c =
    subst (λ (s : Spec). IfOk c.parts_in-parts.result (HasSoundParts (spec_tree s))) c.in-Ok.ensures
    c.parts_in-parts.ensures.ok

pub returns-clause-faulty : goal.returns-clause-faulty
returns-clause-faulty c =
    subst (λ (s : Spec). IfErr c.parts_in-parts.result (IsMemoryOr (HasTreeFault (spec_tree s)))) c.in-Ok.ensures
    c.parts_in-parts.ensures.faulty
