use Rattle.std.proofs.Common.{Option, sym, ap, ◌∙◌, subst}
use Rattle.tm_term.specs.declared.term.TermId.{TermId}
use Rattle.tm_flat.specs.Steps.{IsTerm}
use Rattle.tm_flat_exprs.specs.Made.{IsTruth}
use Rattle.tm_flat_moves.specs.Ended.{MakesVerdict}
use Rattle.tm_flat_moves.proofs.mover.Mover.somewhere.Goals as goal

pub truths_of-requires-clause-sound : goal.truths_of-requires-clause-sound
truths_of-requires-clause-sound c = c.requires.ending.sound

pub truths_of-requires-clause-arrives : goal.truths_of-requires-clause-arrives
truths_of-requires-clause-arrives c =
    subst (λ id. IsTerm c.args.course.now.terms 1 id) (sym c.guard.ensures) c.requires.flow.guard

pub truths_of-requires-clause-failed : goal.truths_of-requires-clause-failed
truths_of-requires-clause-failed c =
    subst (IsTruth c.args.course.now.terms) (sym c.failed-failed.ensures) c.requires.ending.known.failed

pub next-requires-clause-sound : goal.next-requires-clause-sound
next-requires-clause-sound c = c.in_ok-told.ensures.sound

pub next-requires-clause-inputs : goal.next-requires-clause-inputs
next-requires-clause-inputs c = c.in_ok-told.ensures.grown.inputs ∙ c.requires.ending.inputs

pub next-requires-clause-few : goal.next-requires-clause-few
next-requires-clause-few c = c.requires.ending.few

pub next-requires-clause-small : goal.next-requires-clause-small
next-requires-clause-small c = c.requires.ending.small

pub next-requires-clause-count : goal.next-requires-clause-count
next-requires-clause-count c = sym c.requires.flow.memory.count

pub next-requires-clause-last : goal.next-requires-clause-last
next-requires-clause-last c = c.requires.last

pub returns : goal.returns
returns c = record {
  mid = c.truths_of.new.terms;
  told = subst (λ id. MakesVerdict c.args.course.now.terms c.truths_of.new.terms id c.args.course.now.ends.failed
      c.in_ok-told.told) c.guard.ensures
      (subst (λ o. MakesVerdict c.args.course.now.terms c.truths_of.new.terms c.guard.result o c.in_ok-told.told)
      c.failed-failed.ensures c.in_ok-told.ensures);
  next = c.in_ok-next.ensures.next;
}
