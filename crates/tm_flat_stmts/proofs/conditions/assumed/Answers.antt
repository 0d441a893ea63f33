use Rattle.tm_syntax.specs.Tree.View.{expr_tree}
use Rattle.tm_flat_stmts.proofs.Asking.{assumed_so, tested_flow}
use Rattle.tm_flat_stmts.proofs.conditions.assumed.Goals as goal

pub narrowed-requires-clause-guard : goal.narrowed-requires-clause-guard
narrowed-requires-clause-guard c =
    (tested_flow c.args.reader.now (expr_tree c.args.e.now) c.args.terms.now c.value_operand.new.terms c.args.flow
    c.args.ends.now c.value_operand.new.ends c.in_ok-tested.tested c.in_ok-tested.ensures).guard

pub returns : goal.returns
returns c = λ at first.
    assumed_so c.args.reader.now (expr_tree c.args.e.now) c.args.terms.now c.value_operand.new.terms c.args.flow
    c.args.ends.now
    c.value_operand.new.ends c.in_ok-tested.tested c.in_ok-tested.ensures at first c.narrowed.new.terms
    c.in_ok-goes.goes
    c.in_ok-goes.ensures
