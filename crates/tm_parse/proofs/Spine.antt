-- An expression is an operand and what operators join to it.
use Rattle.std.proofs.Common.{◌≡◌, ℕ, ◌+◌, ◌≤◌, List, refl, arith, le_refl}
use Rattle.tm_base.specs.declared.place.Place.{Place}
use Rattle.tm_syntax.specs.declared.token.Token.{Token}
use Rattle.tm_syntax.specs.declared.token.TokenKind.TheVariants as token
use Rattle.tm_syntax.specs.declared.tree.BinaryOperator.{BinaryOperator}
use Rattle.tm_syntax.specs.declared.tree.BinaryOperator.TheVariants as operator
use Rattle.tm_syntax.specs.Tree.{ExprTree}
use Rattle.tm_syntax.specs.Grammar.Parts.{IsMark}
use Rattle.tm_syntax.specs.Grammar.Expressions.{strength, height, IsExpr, expr_conditional, expr_binary, expr_shift, expr_unary, expr_number, expr_true, expr_false, expr_path, expr_element, expr_group, expr_cast}
use Rattle.tm_parse.specs.declared.operators.Infix.{Infix}
use Rattle.tm_parse.specs.declared.operators.Infix.TheVariants as joining
use Rattle.tm_parse.specs.Reading.{Reach, IsBound}
use Rattle.tm_parse.specs.Operands.{AnExpr, IsJoined, joins_expr, joins_number, IsTail, tail_end, tail_more, infix_sign, infix_strength}

pub strength_positive : (op : BinaryOperator) → 1 ≤ strength op
strength_positive operator.OrElse = omega arith
strength_positive operator.AndAlso = omega arith
strength_positive operator.Or = omega arith
strength_positive operator.Xor = omega arith
strength_positive operator.And = omega arith
strength_positive operator.Equal = omega arith
strength_positive operator.NotEqual = omega arith
strength_positive operator.Less = omega arith
strength_positive operator.LessEqual = omega arith
strength_positive operator.Greater = omega arith
strength_positive operator.GreaterEqual = omega arith
strength_positive operator.Add = omega arith
strength_positive operator.Subtract = omega arith

pub strength_most : (op : BinaryOperator) → strength op ≤ 9
strength_most operator.OrElse = omega arith
strength_most operator.AndAlso = omega arith
strength_most operator.Or = omega arith
strength_most operator.Xor = omega arith
strength_most operator.And = omega arith
strength_most operator.Equal = omega arith
strength_most operator.NotEqual = omega arith
strength_most operator.Less = omega arith
strength_most operator.LessEqual = omega arith
strength_most operator.Greater = omega arith
strength_most operator.GreaterEqual = omega arith
strength_most operator.Add = omega arith
strength_most operator.Subtract = omega arith

pub infix_positive : (op : Infix) → 1 ≤ infix_strength op
infix_positive (joining.Binary op) = strength_positive op
infix_positive (joining.Shift op) = omega arith

pub infix_most : (op : Infix) → infix_strength op ≤ 9
infix_most (joining.Binary op) = strength_most op
infix_most (joining.Shift op) = omega arith

-- an expression that binds so strongly binds at least as strongly as less asks
pub weaker : {text : List ℕ} {May : List Token → ℕ → Type 0} {bound depth : ℕ} {e : ExprTree} {a b : List Token}
    (less : ℕ) → less ≤ bound → IsExpr text May bound depth e a b → IsExpr text May less depth e a b
weaker less h (expr_conditional loosest e m w f o g) = expr_conditional (omega arith) e m w f o g
weaker less h (expr_binary s e m w f) = expr_binary (omega arith) e m w f
weaker less h (expr_shift s e m w n) = expr_shift (omega arith) e m w n
weaker less h (expr_unary m w e) = expr_unary m w e
weaker less h (expr_number n) = expr_number n
weaker less h (expr_true m) = expr_true m
weaker less h (expr_false m) = expr_false m
weaker less h (expr_path p) = expr_path p
weaker less h (expr_element p o w e c) = expr_element p o w e c
weaker less h (expr_group m w e c) = expr_group m w e c
weaker less h (expr_cast m l n g o w e c) = expr_cast m l n g o w e c

-- a left operand, joined by an operator to the right one
joined_expr : {text : List ℕ} {depth : ℕ} {reach : Reach} {op : Infix} {at : Place} {l e : ExprTree}
    {a b c d : List Token} →
    AnExpr text (infix_strength op) depth reach l a b → IsMark (token.Sign (infix_sign op)) at b c →
    IsBound reach b (height l + 1) → IsJoined text depth reach l at op e c d →
    AnExpr text (infix_strength op) depth reach e a d
joined_expr left m w (joins_expr {op} right) = expr_binary (le_refl (strength op)) left m w right
joined_expr left m w (joins_number n) = expr_shift (omega arith) left m w n

-- what operators join to an expression that binds strongly enough is an expression
pub tail_expr : {text : List ℕ} {least depth : ℕ} {reach : Reach} {most cap : ℕ} {l e : ExprTree} {a b c : List Token} →
    least ≤ cap →
    most ≤ cap → AnExpr text cap depth reach l a b → IsTail text least depth reach most l e b c →
    AnExpr text least depth reach e a c
tail_expr {least} above below left tail_end = weaker least (omega arith) left
tail_expr above below left (tail_more {op} s t m w right more) =
    tail_expr s (le_refl (infix_strength op))
    (joined_expr (weaker (infix_strength op) (omega arith) left) m w right) more

-- one more operand behind a tail of operators that bind at least as strongly as the last
tail_push : {text : List ℕ} {least last depth : ℕ} {reach : Reach} {most : ℕ} {op : Infix} {at : Place}
    {x l e : ExprTree}
    {a b c d : List Token} → least ≤ last → last ≡ infix_strength op → last ≤ most →
    IsTail text last depth reach most x l a b → IsMark (token.Sign (infix_sign op)) at b c →
    IsBound reach b (height l + 1) → IsJoined text depth reach l at op e c d →
    IsTail text least depth reach most x e a d
tail_push above is below tail_end m w right = tail_more (omega arith) (omega arith) m w right tail_end
tail_push above is below (tail_more s t n v middle more) m w right =
    tail_more (omega arith) t n v middle (tail_push above is s more m w right)

-- an operand, and what operators join to it
pub record Spine (text : List ℕ) (least depth : ℕ) (reach : Reach) (e : ExprTree) (a c : List Token) : Type 0 where
  pub first : ExprTree
  pub between : List Token
  pub operand : AnExpr text 10 depth reach first a between
  pub tail : IsTail text least depth reach 9 first e between c

spine_more : {text : List ℕ} {least last depth : ℕ} {reach : Reach} {op : Infix} {at : Place} {l e : ExprTree}
    {a b c d : List Token} → least ≤ last → last ≡ infix_strength op → Spine text last depth reach l a b →
    IsMark (token.Sign (infix_sign op)) at b c → IsBound reach b (height l + 1) →
    IsJoined text depth reach l at op e c d →
    Spine text least depth reach e a d
spine_more {op} above is s m w right = record {
  first = s.first;
  between = s.between;
  operand = s.operand;
  tail = tail_push above is (omega (arith, infix_most op)) s.tail m w right;
}

alone : {text : List ℕ} {least depth : ℕ} {reach : Reach} {e : ExprTree} {a c : List Token} →
    AnExpr text 10 depth reach e a c →
    Spine text least depth reach e a c
alone {e} {c} is = record { first = e; between = c; operand = is; tail = tail_end }

pub spine : {text : List ℕ} {reach : Reach} {least depth : ℕ} {e : ExprTree} {a c : List Token} → 1 ≤ least →
    AnExpr text least depth reach e a c → Spine text least depth reach e a c
spine above (expr_conditional loosest e m w f o g) = absurd (omega arith)
spine above (expr_binary {op} s e m w f) =
    spine_more {op = joining.Binary op} s refl (spine (strength_positive op) e) m w (joins_expr f)
spine above (expr_shift {op} s e m w n) =
    spine_more {op = joining.Shift op} s refl (spine (omega arith) e) m w (joins_number n)
spine above (expr_unary m w e) = alone (expr_unary m w e)
spine above (expr_number n) = alone (expr_number n)
spine above (expr_true m) = alone (expr_true m)
spine above (expr_false m) = alone (expr_false m)
spine above (expr_path p) = alone (expr_path p)
spine above (expr_element p o w e c) = alone (expr_element p o w e c)
spine above (expr_group m w e c) = alone (expr_group m w e c)
spine above (expr_cast m l n g o w e c) = alone (expr_cast m l n g o w e c)
