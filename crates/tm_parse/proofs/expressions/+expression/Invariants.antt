use Rattle.std.proofs.Common.{◌≡◌, ◌≤◌, ℕ, ◌+◌, ◌-◌, ◌*◌, min, length}
use Rattle.tm_syntax.specs.Tree.View.{expr_tree}
use Rattle.tm_syntax.specs.Grammar.Expressions.{height}
use Rattle.tm_parse.specs.Operands.{infix_strength}
use Rattle.tm_parse.proofs.Tails.{TailSoFar}
use Rattle.tm_parse.proofs.expressions.+expression.Given as goal

abbrev pub decreases-whole : goal.decreases-whole
decreases-whole l = (128 - l.depth) * 32 + 31

abbrev pub decreases-boxed_expr : goal.decreases-boxed_expr
decreases-boxed_expr l = (128 - l.depth) * 32 + 32

abbrev pub decreases-expr_from : goal.decreases-expr_from
decreases-expr_from l = (128 - l.depth) * 32 + 30

abbrev pub decreases-joined_from : goal.decreases-joined_from
decreases-joined_from l = (128 - l.depth) * 32 + (28 - 2 * l.least)

abbrev pub decreases-joined : goal.decreases-joined
decreases-joined l = (128 - l.depth) * 32 + (27 - 2 * infix_strength l.operator)

abbrev pub decreases-operand : goal.decreases-operand
decreases-operand l = (128 - l.depth) * 32 + 5

abbrev pub decreases-primary : goal.decreases-primary
decreases-primary l = (128 - l.depth) * 32 + 4

abbrev pub decreases-group : goal.decreases-group
decreases-group l = (128 - l.depth) * 32 + 3

abbrev pub decreases-cast : goal.decreases-cast
decreases-cast l = (128 - l.depth) * 32 + 3

abbrev pub decreases-place_from : goal.decreases-place_from
decreases-place_from l = (128 - l.depth) * 32 + 3

abbrev pub decreases-enclosed : goal.decreases-enclosed
decreases-enclosed l = (128 - l.depth) * 32 + 2

abbrev pub decreases-choice_from : goal.decreases-choice_from
decreases-choice_from l = (128 - l.depth) * 32 + 1

abbrev pub decreases-prefixed : goal.decreases-prefixed
decreases-prefixed l = (128 - l.depth) * 32 + 4

abbrev pub invariant-joined_from-loop-operator : goal.invariant-joined_from-loop-operator
invariant-joined_from-loop-operator l = record {
  so_far : TailSoFar l.text l.least l.depth (expr_tree l.fn.first.expr) (expr_tree l.left.expr) l.most l.tokens l.rest;
  height : l.left.height ≡ min (height (expr_tree l.left.expr)) 128;
  shorter : length l.rest ≤ length l.tokens;
}

abbrev pub decreases-joined_from-loop-operator : goal.decreases-joined_from-loop-operator
decreases-joined_from-loop-operator l = length l.rest
