use Rattle.std.proofs.Common.{◌≡◌, Some, List, ap, ◌∙◌, subst}
use Rattle.std.specs.Prelude.{slice_get}
use Rattle.tm_term.specs.declared.term.TermId.{TermId}
use Rattle.tm_flat_exprs.specs.Kept.{KeptTerms}
use Rattle.tm_flat_exprs.proofs.Merging.{merged_of}
use Rattle.tm_flat_exprs.proofs.memory.TermMemory.merge.Goals as goal

pub chosen_values-requires-clause-widths : goal.chosen_values-requires-clause-widths
chosen_values-requires-clause-widths c = λ i a b at there.
    c.requires.alike.values i a b
    (subst (λ (ids : List TermId). slice_get ids i ≡ Some a)
    (c.deref.ensures.value ∙ ap (λ (k : KeptTerms). k.values) c.self.view_is) at)
    (subst (λ (ids : List TermId). slice_get ids i ≡ Some b)
    (c.deref-2.ensures.value ∙ ap (λ (k : KeptTerms). k.values) c.other.view_is) there)

pub returns : goal.returns
returns c =
    merged_of c.args.terms.now c.chosen_values.new.terms c.args.guard c.args.self c.args.other.now
    (record { values = c.in_ok-values.values.items; step = c.in_ok-step.step }) c.deref.result.now
    c.deref-2.result.now c.self.inside.step c.other.inside.step c.requires.guard
    (c.deref.ensures.value ∙ ap (λ (k : KeptTerms). k.values) c.self.view_is)
    (c.deref-2.ensures.value ∙ ap (λ (k : KeptTerms). k.values) c.other.view_is)
    (ap (λ (k : KeptTerms). k.step) c.self.view_is) (ap (λ (k : KeptTerms). k.step) c.other.view_is)
    c.requires.alike.count c.in_ok-values.ensures c.in_ok-step.ensures
