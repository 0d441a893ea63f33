use Rattle.std.proofs.Common.{sym, subst}
use Rattle.tm_scope.specs.Types.{ty_of}
use Rattle.tm_syntax.specs.Tree.{binary}
use Rattle.tm_syntax.specs.Tree.View.{expr_tree}
use Rattle.tm_design.specs.Typed.{HasTypeAt}
use Rattle.tm_plain_exprs.proofs.Reading.{operands_by_tables}
use Rattle.tm_plain_exprs.proofs.reader.Reader.operand_type.Goals as goal

pub operand_type-requires : goal.operand_type-requires
operand_type-requires c = (
  c.requires.0,
  subst (λ s. HasTypeAt s (ty_of c.args.asked)
      (binary c.requires.0 c.args.op (expr_tree c.args.a.now) (expr_tree c.args.b.now))) (sym c.self.view_is)
      c.requires.1,
)

pub returns : goal.returns
returns c =
    operands_by_tables c.self.inside.scope c.args.self.now c.self.view_is c.args.op (ty_of c.args.asked)
    (expr_tree c.args.a.now) (expr_tree c.args.b.now) (ty_of c.operand_type.result) c.operand_type.ensures.asks
    c.operand_type.ensures.first c.operand_type.ensures.second
