use Rattle.std.proofs.Common.{sym, subst}
use Rattle.std.specs.Prelude.{Option}
use Rattle.tm_term.specs.declared.term.TermId.{TermId}
use Rattle.tm_flat_exprs.specs.Made.{IsTruth, Makes, value_at}
use Rattle.tm_flat_moves.proofs.Judging.{truth_there}
use Rattle.tm_flat_moves.proofs.finish.truth.Goals as goal

pub returns-in-Some : goal.returns-in-Some
returns-in-Some c =
    subst (λ (o : Option TermId). Makes c.args.terms.now c.args.terms.now 1 c.in-Some.id (λ u v. value_at u v o))
    (sym c.in-Some.is)
    (truth_there c.args.terms.now c.in-Some.id c.requires.sound
    (subst (IsTruth c.args.terms.now) c.in-Some.is c.requires.truth))

pub returns-in_ok-never-in-None : goal.returns-in_ok-never-in-None
returns-in_ok-never-in-None c =
    subst (λ (o : Option TermId). Makes c.args.terms.now c.make.new.terms 1 c.in_ok-never-in-None.never
    (λ u v. value_at u v o))
    (sym c.in-None.is) c.in_ok-never-in-None.ensures
