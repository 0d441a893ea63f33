use Rattle.std.proofs.Common.{List, refl, sym, subst}
use Rattle.tm_game_steps.specs.Changes.{AreChanges}
use Rattle.tm_dd.proofs.CallerLaws.{Extends-trans}
use Rattle.tm_flat.specs.Flat.{step_terms}
use Rattle.tm_game_steps.specs.Setting.{AreNumbers, setting_of}
use Rattle.tm_game_steps.proofs.Readings.{lists_read}
use Rattle.tm_game_steps.proofs.Telling.{step_is}
use Rattle.tm_game_steps.proofs.encoding.Encoding.step.Goals as goal
use Rattle.tm_term.specs.declared.term.TermId.{TermId}

pub changed-requires-clause-next : goal.changed-requires-clause-next
changed-requires-clause-next c =
    subst (λ (ids : List TermId). AreNumbers (setting_of c.args.self.now) ids) (sym c.deref.ensures.value)
    c.requires.terms.next

pub choices_below-requires : goal.choices_below-requires
choices_below-requires c = c.requires.ready.words

pub returns-in_err-next-clause-earlier : goal.returns-in_err-next-clause-earlier
returns-in_err-next-clause-earlier c = Extends-trans _ _ _ c.truth.ensures.earlier c.changed.ensures.earlier

pub returns-in_err-choices-clause-earlier : goal.returns-in_err-choices-clause-earlier
returns-in_err-choices-clause-earlier c = Extends-trans _ _ _ c.truth.ensures.earlier c.changed.ensures.earlier

pub returns-clause-earlier : goal.returns-clause-earlier
returns-clause-earlier c = Extends-trans _ _ _ c.truth.ensures.earlier c.changed.ensures.earlier

pub returns-clause-step : goal.returns-clause-step
returns-clause-step c = λ test guarded.
    step_is (setting_of c.args.self.now) c.args.dd.now.table c.truth.new.dd.table c.changed.new.dd.table test
    c.args.arguments.items (step_terms c.args.step.now) _ c.truth.ensures.earlier c.changed.ensures.earlier guarded
    c.in_ok-error.ensures.truth
    (subst (λ (ids : List TermId).
    AreChanges c.args.self.now.terms (setting_of c.args.self.now).levels c.changed.new.dd.table ids
    c.in_ok-next.next.items) c.deref.ensures.value c.in_ok-next.ensures.changes)
    (lists_read (setting_of c.args.self.now) c.args.reads.now c.in_ok-choices.choices.items c.above_step.result
    (step_terms c.args.step.now) c.requires.terms c.requires.reads c.above_step.ensures.legal
    c.above_step.ensures.error c.above_step.ensures.next c.in_ok-choices.ensures)
    refl
