use Rattle.std.proofs.Common.{sym, subst}
use Rattle.tm_base.specs.Arithmetic.{is_nonzero}
use Rattle.tm_syntax.specs.Tree.View.{expr_tree}
use Rattle.tm_term.specs.Value.{value_of}
use Rattle.tm_term.proofs.Valued.{Extends-trans}
use Rattle.tm_flat.specs.Steps.{IsTerm}
use Rattle.tm_flat_exprs.proofs.Later.{term_along}
use Rattle.tm_flat_stmts.specs.Flows.{FlowTerms, Narrows}
use Rattle.tm_flat_stmts.proofs.Asking.{tested_flow}
use Rattle.tm_flat_stmts.proofs.Parting.{parted_so}
use Rattle.tm_flat_stmts.proofs.branches.parted.Goals as goal

pub narrowed-requires-clause-guard : goal.narrowed-requires-clause-guard
narrowed-requires-clause-guard c =
    term_along c.value_operand.new.terms c.denial.new.terms 1 c.in_ok-tested.tested.flow.guard
    c.in_ok-fails.ensures.grown
    (tested_flow c.args.reader.now (expr_tree c.args.e.now) c.args.terms.now c.value_operand.new.terms c.args.flow
    c.args.ends.now c.value_operand.new.ends c.in_ok-tested.tested c.in_ok-tested.ensures).guard

pub narrowed-requires-clause-test : goal.narrowed-requires-clause-test
narrowed-requires-clause-test c =
    term_along c.value_operand.new.terms c.denial.new.terms 1 c.in_ok-tested.tested.value c.in_ok-fails.ensures.grown
    c.in_ok-tested.ensures.value.term

pub narrowed-requires-2-clause-guard : goal.narrowed-requires-2-clause-guard
narrowed-requires-2-clause-guard c =
    term_along c.value_operand.new.terms c.narrowed.new.terms 1 c.in_ok-other.other.guard
    (Extends-trans c.value_operand.new.terms c.denial.new.terms c.narrowed.new.terms c.in_ok-fails.ensures.grown
    c.in_ok-first.ensures.grown)
    (subst (λ (f : FlowTerms). IsTerm c.value_operand.new.terms 1 f.guard) (sym c.in_ok-other.ensures)
    (tested_flow c.args.reader.now (expr_tree c.args.e.now) c.args.terms.now c.value_operand.new.terms c.args.flow
    c.args.ends.now c.value_operand.new.ends c.in_ok-tested.tested c.in_ok-tested.ensures).guard)

pub narrowed-requires-2-clause-test : goal.narrowed-requires-2-clause-test
narrowed-requires-2-clause-test c =
    term_along c.denial.new.terms c.narrowed.new.terms 1 c.in_ok-fails.fails c.in_ok-first.ensures.grown
    c.in_ok-fails.ensures.term

pub returns : goal.returns
returns c =
    parted_so c.args.reader.now (expr_tree c.args.e.now) c.args.terms.now c.value_operand.new.terms
    c.denial.new.terms c.narrowed.new.terms c.narrowed-2.new.terms c.args.flow c.in_ok-first.first
    c.in_ok-second.second c.args.ends.now c.value_operand.new.ends c.in_ok-tested.tested c.in_ok-fails.fails
    c.in_ok-tested.ensures c.in_ok-fails.ensures c.in_ok-first.ensures
    (subst (λ (f : FlowTerms). Narrows c.narrowed.new.terms c.narrowed-2.new.terms f c.in_ok-second.second
    (λ u v. is_nonzero (value_of u v c.in_ok-fails.fails))) c.in_ok-other.ensures c.in_ok-second.ensures)
