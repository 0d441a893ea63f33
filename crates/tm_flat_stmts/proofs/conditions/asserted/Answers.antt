use Rattle.tm_syntax.specs.Tree.View.{expr_tree}
use Rattle.tm_term.proofs.Valued.{Extends-trans}
use Rattle.tm_flat_exprs.proofs.Later.{term_along, truth_along}
use Rattle.tm_flat_stmts.proofs.Asking.{asserted_so, tested_ends, tested_flow}
use Rattle.tm_flat_stmts.proofs.conditions.asserted.Goals as goal

pub fail-requires-clause-failed : goal.fail-requires-clause-failed
fail-requires-clause-failed c =
    truth_along c.value_operand.new.terms c.denial.new.terms c.value_operand.new.ends.failed c.in_ok-fails.ensures.grown
    (tested_ends c.args.reader.now (expr_tree c.args.e.now) c.args.terms.now c.value_operand.new.terms c.args.flow
    c.args.ends.now c.value_operand.new.ends c.in_ok-tested.tested c.in_ok-tested.ensures).failed

pub fail-requires-clause-guard : goal.fail-requires-clause-guard
fail-requires-clause-guard c =
    term_along c.value_operand.new.terms c.denial.new.terms 1 c.in_ok-tested.tested.flow.guard
    c.in_ok-fails.ensures.grown
    (tested_flow c.args.reader.now (expr_tree c.args.e.now) c.args.terms.now c.value_operand.new.terms c.args.flow
    c.args.ends.now c.value_operand.new.ends c.in_ok-tested.tested c.in_ok-tested.ensures).guard

pub narrowed-requires-clause-guard : goal.narrowed-requires-clause-guard
narrowed-requires-clause-guard c =
    term_along c.value_operand.new.terms c.fail.new.terms 1 c.in_ok-tested.tested.flow.guard
    (Extends-trans c.value_operand.new.terms c.denial.new.terms c.fail.new.terms c.in_ok-fails.ensures.grown
    c.in_ok-fail.ensures.grown)
    (tested_flow c.args.reader.now (expr_tree c.args.e.now) c.args.terms.now c.value_operand.new.terms c.args.flow
    c.args.ends.now c.value_operand.new.ends c.in_ok-tested.tested c.in_ok-tested.ensures).guard

pub narrowed-requires-clause-test : goal.narrowed-requires-clause-test
narrowed-requires-clause-test c =
    term_along c.value_operand.new.terms c.fail.new.terms 1 c.in_ok-tested.tested.value
    (Extends-trans c.value_operand.new.terms c.denial.new.terms c.fail.new.terms c.in_ok-fails.ensures.grown
    c.in_ok-fail.ensures.grown) c.in_ok-tested.ensures.value.term

pub returns : goal.returns
returns c = λ at first.
    asserted_so c.args.reader.now (expr_tree c.args.e.now) c.args.terms.now c.value_operand.new.terms c.args.flow
    c.args.ends.now c.value_operand.new.ends c.in_ok-tested.tested c.in_ok-tested.ensures at first c.denial.new.terms
    c.fail.new.terms c.narrowed.new.terms c.in_ok-goes.goes c.in_ok-fails.fails c.fail.new.self c.in_ok-fails.ensures
    c.in_ok-fail.ensures c.in_ok-goes.ensures
