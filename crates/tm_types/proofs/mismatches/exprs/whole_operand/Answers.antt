use Rattle.tm_syntax.specs.Tree.View.{expr_tree}
use Rattle.tm_syntax.specs.Faults.Operands as text
use Rattle.tm_scope.specs.Context.{context_of}
use Rattle.tm_types.proofs.mismatches.exprs.whole_operand.Goals as goal

pub returns : goal.returns
returns c =
    c.operand.ensures (text.expr_faults (context_of c.args.at.now) (expr_tree c.args.e.now)) c.expr_faults.ensures
