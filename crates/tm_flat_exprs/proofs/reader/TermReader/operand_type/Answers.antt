use Rattle.std.proofs.Common.{sym, subst}
use Rattle.tm_syntax.specs.Tree.{binary}
use Rattle.tm_syntax.specs.Tree.View.{expr_tree}
use Rattle.tm_scope.specs.Cells.{ScopedCells}
use Rattle.tm_scope.specs.Types.{ty_of}
use Rattle.tm_design.specs.Typed.{HasTypeAt}
use Rattle.tm_design.proofs.Contexts.{operand_told}
use Rattle.tm_flat_exprs.proofs.Operands.{operand_bits}
use Rattle.tm_flat_exprs.proofs.reader.TermReader.operand_type.Goals as goal

pub operand_type-requires : goal.operand_type-requires
operand_type-requires c = (
  c.requires.0,
  subst (λ (v : ScopedCells). HasTypeAt v (ty_of c.args.asked)
      (binary c.requires.0 c.args.op (expr_tree c.args.a.now) (expr_tree c.args.b.now))) (sym c.self.view_is)
      c.requires.1,
)

pub returns : goal.returns
returns c =
    operand_bits c.args.self.now (ty_of c.args.asked) c.requires.0 c.args.op (expr_tree c.args.a.now)
    (expr_tree c.args.b.now) c.requires.1 (ty_of c.operand_type.result)
    (operand_told c.self.inside.scope c.args.self.now c.self.view_is c.args.op (ty_of c.args.asked)
    (expr_tree c.args.a.now) (expr_tree c.args.b.now) (ty_of c.operand_type.result) c.operand_type.ensures.asks)
