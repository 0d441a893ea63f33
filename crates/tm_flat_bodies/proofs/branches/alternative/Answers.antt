use Rattle.std.proofs.Common.{sym, ◌∙◌, subst, refl}
use Rattle.tm_base.specs.Arithmetic.{is_nonzero}
use Rattle.tm_term.specs.Value.{value_of}
use Rattle.tm_term.proofs.Valued.{Extends-trans}
use Rattle.tm_flat.specs.Steps.{IsTerm}
use Rattle.tm_flat_exprs.proofs.Later.{term_along}
use Rattle.tm_flat_stmts.specs.Flows.{FlowTerms, Narrows}
use Rattle.tm_flat_bodies.proofs.Alternating.{is_alternative}
use Rattle.tm_flat_bodies.proofs.branches.alternative.Goals as goal

pub make-requires : goal.make-requires
make-requires c = (c.requires.width, c.requires.within)

pub make-requires-2 : goal.make-requires-2
make-requires-2 c =
    let known = c.requires.term.0 in (
      c.in_ok-constant.ensures.grown.known c.args.number known,
      c.in_ok-constant.ensures.term.0,
      c.in_ok-constant.ensures.grown.widths c.args.number known
          ∙ c.requires.term.1
          ∙ sym c.in_ok-constant.ensures.term.1,
    )

pub narrowed-requires-clause-guard : goal.narrowed-requires-clause-guard
narrowed-requires-clause-guard c =
    subst (λ (f : FlowTerms). IsTerm c.make-2.new.terms 1 f.guard) (sym c.in_ok-copy.ensures)
    (term_along c.args.course.now.terms c.make-2.new.terms 1 c.args.flow.now.guard
    (Extends-trans c.args.course.now.terms c.make.new.terms c.make-2.new.terms c.in_ok-constant.ensures.grown
    c.in_ok-here.ensures.grown) c.requires.guard)

pub narrowed-requires-clause-test : goal.narrowed-requires-clause-test
narrowed-requires-clause-test c = c.in_ok-here.ensures.term

pub returns : goal.returns
returns c =
    is_alternative c.args.course.now _ c.make.new.terms c.make-2.new.terms c.args.flow.now c.args.number c.args.index
    c.in_ok-constant.constant c.in_ok-here.here c.in_ok-goes.goes c.in_ok-constant.ensures c.in_ok-here.ensures
    (subst (λ (f : FlowTerms). Narrows c.make-2.new.terms c.narrowed.new.terms f c.in_ok-goes.goes
    (λ u v. is_nonzero (value_of u v c.in_ok-here.here))) c.in_ok-copy.ensures c.in_ok-goes.ensures) refl
