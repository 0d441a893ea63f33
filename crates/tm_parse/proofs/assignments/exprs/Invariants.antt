use Rattle.std.proofs.Common.{◌<◌, length}
use Rattle.tm_syntax.specs.declared.token.Sign.TheVariants as sign
use Rattle.tm_syntax.specs.Tree.View.{expr_trees}
use Rattle.tm_parse.specs.Operands.{AnExpr, GoesExpr}
use Rattle.tm_parse.proofs.Lists.{SoFar}
use Rattle.tm_parse.proofs.assignments.exprs.Given as goal

abbrev pub invariant-loop-behind : goal.invariant-loop-behind
invariant-loop-behind l = record {
  so_far : SoFar sign.Comma (AnExpr l.text 0 l.depth) (GoesExpr 0) (expr_trees l.exprs.items) l.tokens l.rest;
  shorter : length l.rest < length l.tokens;
}

abbrev pub decreases-loop-behind : goal.decreases-loop-behind
decreases-loop-behind l = length l.rest
