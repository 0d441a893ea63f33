use Rattle.std.proofs.Common.{ℕ, ◌<◌, subst}
use Rattle.tm_term.proofs.Valued.{Extends-trans}
use Rattle.tm_flat_exprs.proofs.Later.{term_along}
use Rattle.tm_flat_stmts.proofs.Choosing.{all_within, most_of, some_within}
use Rattle.tm_flat_stmts.proofs.stars.below_count.Goals as goal

pub returns-then-count-greatest : goal.returns-then-count-greatest
returns-then-count-greatest c =
    all_within c.args.terms.now c.args.flow c.args.number c.args.width c.args.count c.requires.sound c.requires.guard
    c.requires.term
    (most_of c.args.width c.args.count
    (subst (λ (n : ℕ). n < c.args.count) c.greatest.ensures c.if-count-greatest.true))

pub narrowed-requires-clause-guard : goal.narrowed-requires-clause-guard
narrowed-requires-clause-guard c =
    term_along c.args.terms.now c.make-2.new.terms 1 c.args.flow.guard
    (Extends-trans c.args.terms.now c.make.new.terms c.make-2.new.terms c.in_ok-end.ensures.grown
    c.in_ok-below.ensures.grown) c.requires.guard

pub returns : goal.returns
returns c =
    some_within c.args.terms.now c.make.new.terms c.make-2.new.terms c.narrowed.new.terms c.args.flow c.in_ok-goes.goes
    c.args.number c.in_ok-end.end c.in_ok-below.below c.args.width c.args.count c.in_ok-end.ensures
    c.in_ok-below.ensures c.in_ok-goes.ensures
