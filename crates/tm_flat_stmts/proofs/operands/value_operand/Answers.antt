use Rattle.std.proofs.Common.{subst}
use Rattle.tm_syntax.specs.Tree.View.{expr_tree}
use Rattle.tm_scope.specs.Types.{ty_of}
use Rattle.tm_flat_exprs.specs.Valued.{Finds}
use Rattle.tm_flat_exprs.proofs.Later.{truth_along}
use Rattle.tm_flat_stmts.specs.Flows.{FlowTerms}
use Rattle.tm_flat_stmts.proofs.Valuing.{operand_so}
use Rattle.tm_flat_stmts.proofs.operands.value_operand.Goals as goal

pub fail-requires-clause-failed : goal.fail-requires-clause-failed
fail-requires-clause-failed c =
    truth_along c.args.terms.now c.value.new.terms c.args.ends.now.failed c.in_ok-valued.ensures.grown
    c.requires.ends.failed

pub without-requires-clause-truth : goal.without-requires-clause-truth
without-requires-clause-truth c =
    truth_along c.value.new.terms c.fail.new.terms c.in_ok-valued.valued.overrun c.in_ok-fail.ensures.grown
    c.in_ok-valued.ensures.overrun

pub returns : goal.returns
returns c =
    operand_so c.args.reader.now (ty_of c.args.asked) (expr_tree c.args.e.now) c.args.terms.now c.value.new.terms
    c.fail.new.terms c.without.new.terms c.args.flow c.in_ok-goes.goes c.args.ends.now c.fail.new.self
    c.in_ok-valued.valued c.requires.flow c.requires.ends
    (subst (λ (f : FlowTerms). Finds c.args.reader.now f.memory (ty_of c.args.asked) (expr_tree c.args.e.now)
    c.args.terms.now c.value.new.terms c.in_ok-valued.valued) c.flow.view_is c.in_ok-valued.ensures)
    c.in_ok-fail.ensures c.in_ok-goes.ensures
