use Rattle.std.proofs.Common.{ap, ◌∙◌}
use Rattle.tm_syntax.specs.Tree.View.{expr_tree}
use Rattle.tm_syntax.specs.Scopes.Types.{own_type}
use Rattle.tm_syntax.specs.Faults.Operands as text
use Rattle.tm_scope.specs.Context.{context_of}
use Rattle.tm_types.proofs.mismatches.exprs.operand.Goals as goal

pub returns : goal.returns
returns c = λ faults is. record {
  first = is;
  found = c.of-found.ensures faults is
      ∙ ap (text.finding faults) (c.own_type.ensures
      ∙ ap (λ p. own_type (context_of p) (expr_tree c.args.e.now)) c.types.ensures);
}
