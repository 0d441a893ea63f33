use Rattle.std.proofs.Common.{Option, sym, subst}
use Rattle.std.specs.Prelude.{not}
use Rattle.tm_term.specs.declared.term.TermId.{TermId}
use Rattle.tm_flat_exprs.specs.Made.{IsTruth, truth_at}
use Rattle.tm_flat_exprs.proofs.Later.{term_along}
use Rattle.tm_flat_stmts.specs.Flows.{Narrows}
use Rattle.tm_flat_stmts.proofs.Flowing.{narrowed_off, never_narrowed}
use Rattle.tm_flat_stmts.proofs.flow.Flow.without.Goals as goal

pub returns-in-None : goal.returns-in-None
returns-in-None c =
    subst (λ (o : Option TermId). Narrows c.args.terms.now c.args.terms.now c.args.self c.args.self
    (λ u v. not (truth_at u v o))) (sym c.in-None.is)
    (never_narrowed c.args.terms.now c.args.self c.requires.sound c.requires.guard)

pub denial-requires : goal.denial-requires
denial-requires c = subst (IsTruth c.args.terms.now) c.in-Some.is c.requires.truth

pub narrowed-requires-clause-guard : goal.narrowed-requires-clause-guard
narrowed-requires-clause-guard c =
    term_along c.args.terms.now c.denial.new.terms 1 c.args.self.guard c.in_ok-fails-in-Some.ensures.grown
    c.requires.guard

pub returns-in_ok-flow-in-Some : goal.returns-in_ok-flow-in-Some
returns-in_ok-flow-in-Some c =
    subst (λ (o : Option TermId). Narrows c.args.terms.now c.narrowed.new.terms c.args.self c.in_ok-flow-in-Some.flow
    (λ u v. not (truth_at u v o))) (sym c.in-Some.is)
    (narrowed_off c.args.terms.now c.denial.new.terms c.narrowed.new.terms c.args.self c.in_ok-flow-in-Some.flow
    c.in-Some.test c.in_ok-fails-in-Some.fails c.in_ok-fails-in-Some.ensures c.in_ok-flow-in-Some.ensures)
