use Rattle.std.proofs.Common.{◌+◌, ◌<◌, List, length, take, sym, ap, ◌∙◌, subst, arith}
use Rattle.std.specs.Prelude.{slice_get}
use Rattle.tm_scope.proofs.Entries.{at-there}
use Rattle.tm_term.specs.declared.term.TermId.{TermId}
use Rattle.tm_term.specs.Table.{Table}
use Rattle.tm_flat_exprs.specs.declared.memory.versions.Version.{Version}
use Rattle.tm_flat_exprs.proofs.Versions.{TermsUntil, more_terms, width_at, zero_along}
use Rattle.tm_flat_exprs.proofs.memory.step_terms.StepTerms.chosen.Goals.{in-Some+in_ok-last+in_ok-push-2, in_default}
use Rattle.tm_flat_exprs.proofs.memory.step_terms.StepTerms.chosen.Goals as goal

pub next_term-requires-clause-zero : goal.next_term-requires-clause-zero
next_term-requires-clause-zero c =
    zero_along c.args.terms.now c.loop-index.terms c.args.width c.args.zero c.loop-index.invariant.grown
    c.loop-index.invariant.sound c.requires.zero

pub next_term-requires-clause-version : goal.next_term-requires-clause-version
next_term-requires-clause-version c =
    width_at c.args.terms.now c.loop-index.terms c.args.self.now c.args.cell c.args.width c.loop-index.index
    c.in-Some.version c.loop-index.invariant.grown c.requires.versions
    (ap (λ (ws : List Version). slice_get ws c.loop-index.index) (sym c.self.view_is)
    ∙ sym c.get.ensures ∙ c.in-Some.is)

pub loop-index-preserved : goal.loop-index-preserved
loop-index-preserved c = elim c.match-get.branch [
  | in-Some+in_ok-last+in_ok-push-2 w ↦
      subst (λ (n : Table). TermsUntil c.args.terms.now n (take (c.loop-index.index + 1) c.args.self.now) c.args.cell
      c.args.width c.match-get.ids.items c.match-get.last) (sym w.terms-is)
      (subst (λ (id : TermId). TermsUntil c.args.terms.now w.next_term.new.terms
      (take (c.loop-index.index + 1) c.args.self.now) c.args.cell c.args.width c.match-get.ids.items id)
      (sym w.last-is)
      (more_terms c.args.terms.now c.loop-index.terms w.next_term.new.terms c.args.self.now w.in-Some.version
      c.args.cell c.args.width c.loop-index.index c.loop-index.ids.items w.deref.result.now c.match-get.ids.items
      c.loop-index.last w.in_ok-last.last c.loop-index.invariant
      (ap (λ (ws : List Version). slice_get ws c.loop-index.index) (sym c.self.view_is)
      ∙ sym c.get.ensures ∙ w.in-Some.is)
      w.deref.ensures.value w.in_ok-last.ensures ((λ i. (w.ids-is i).items) ∙ w.in_ok-push-2.ensures.items)))
  | in_default w ↦
      let below : c.loop-index.index < length c.self.inside.versions =
      omega (arith, c.loop-index-test.true, c.len-index-end.ensures) in
      let here = at-there c.self.inside.versions c.loop-index.index below in
      absurd (w.in_default.not-Some here.0 (c.get.ensures ∙ here.1))
]
