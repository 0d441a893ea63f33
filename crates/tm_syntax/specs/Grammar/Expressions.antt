-- The grammar of expressions. Precedence and grouping are said by how strongly a form binds: the left operand of a sum
-- is a sum or binds more strongly, and its right operand binds more strongly.
use Rattle.std.specs.Prelude.{◌≡◌, ℕ, ◌+◌, ◌≤◌, max, true, false, List}
use Rattle.tm_base.specs.declared.place.Place.{Place}
use Rattle.tm_syntax.specs.declared.token.Token.{Token}
use Rattle.tm_syntax.specs.declared.token.TokenKind.TheVariants as token
use Rattle.tm_syntax.specs.declared.token.Word.TheVariants as word
use Rattle.tm_syntax.specs.declared.token.Sign.{Sign}
use Rattle.tm_syntax.specs.declared.token.Sign.TheVariants as sign
use Rattle.tm_syntax.specs.declared.tree.Ident.{Ident}
use Rattle.tm_syntax.specs.declared.tree.Num.{Num}
use Rattle.tm_syntax.specs.declared.tree.UnaryOperator.{UnaryOperator}
use Rattle.tm_syntax.specs.declared.tree.UnaryOperator.TheVariants as unary_operator
use Rattle.tm_syntax.specs.declared.tree.BinaryOperator.{BinaryOperator}
use Rattle.tm_syntax.specs.declared.tree.BinaryOperator.TheVariants as operator
use Rattle.tm_base.specs.declared.shift_operator.ShiftOperator.{ShiftOperator}
use Rattle.tm_base.specs.declared.shift_operator.ShiftOperator.TheVariants as shift_operator
use Rattle.tm_syntax.specs.Tree.{ExprTree, truth, number, path, group, unary, binary, shift, conditional, cast, element}
use Rattle.tm_syntax.specs.Grammar.Parts.{Has, IsMark, IsNumber, IsPath}

-- the sign of a prefix operator
abbrev pub unary_sign : UnaryOperator → Sign
unary_sign unary_operator.Complement = sign.Tilde
unary_sign unary_operator.Not = sign.Bang

-- the sign of an operator between two expressions
abbrev pub binary_sign : BinaryOperator → Sign
binary_sign operator.Equal = sign.Equal
binary_sign operator.NotEqual = sign.NotEqual
binary_sign operator.Less = sign.Less
binary_sign operator.LessEqual = sign.LessEqual
binary_sign operator.Greater = sign.Greater
binary_sign operator.GreaterEqual = sign.GreaterEqual
binary_sign operator.Add = sign.Plus
binary_sign operator.Subtract = sign.Minus
binary_sign operator.And = sign.And
binary_sign operator.AndAlso = sign.AndAnd
binary_sign operator.Or = sign.Or
binary_sign operator.OrElse = sign.OrOr
binary_sign operator.Xor = sign.Xor

-- the sign of a shift
abbrev pub shift_sign : ShiftOperator → Sign
shift_sign shift_operator.Left = sign.ShiftLeft
shift_sign shift_operator.Right = sign.ShiftRight

-- how strongly an operator binds, from loosest to tightest; `? :` binds at 0, shifts at 8, and `!` and `~` at 10
abbrev pub strength : BinaryOperator → ℕ
strength operator.OrElse = 1
strength operator.AndAlso = 2
strength operator.Or = 3
strength operator.Xor = 4
strength operator.And = 5
strength operator.Equal = 6
strength operator.NotEqual = 6
strength operator.Less = 7
strength operator.LessEqual = 7
strength operator.Greater = 7
strength operator.GreaterEqual = 7
strength operator.Add = 9
strength operator.Subtract = 9

-- the height of an expression: a name or constant has 1, and each operator, bracket, cast and index adds one to its
-- highest part
abbrev pub height : ExprTree → ℕ
height (truth _ _) = 1
height (number _) = 1
height (path _) = 1
height (group _ e) = height e + 1
height (unary _ _ e) = height e + 1
height (binary _ _ e f) = max (height e) (height f) + 1
height (shift _ _ e _) = height e + 1
height (conditional _ e f g) = max (height e) (max (height f) (height g)) + 1
height (cast _ _ e) = height e + 1
height (element _ e) = height e + 1

-- an expression that binds at least so strongly; where an operator makes an expression higher, it may have to stand
-- that deep
pub data IsExpr (text : List ℕ) (May : List Token → ℕ → Type 0) :
    ℕ → ℕ → ExprTree → List Token → List Token → Type 0 where
  -- a stronger form "?" expr ":" expr
  expr_conditional : {bound depth : ℕ} {at : Place} {e f g : ExprTree} {a b c d h i : List Token} → bound ≡ 0 →
      IsExpr text May 1 depth e a b → IsMark (token.Sign sign.Question) at b c → May b (depth + 1) →
      IsExpr text May 0 (depth + 1) f c d → Has (token.Sign sign.Colon) d h → IsExpr text May 0 (depth + 1) g h i →
      IsExpr text May bound depth (conditional at e f g) a i
  -- a form of the same strength or stronger, the operator, a stronger form
  expr_binary : {bound depth : ℕ} {op : BinaryOperator} {at : Place} {e f : ExprTree} {a b c d : List Token} →
      bound ≤ strength op →
      IsExpr text May (strength op) depth e a b → IsMark (token.Sign (binary_sign op)) at b c →
      May b (height e + 1) → IsExpr text May (strength op + 1) depth f c d →
      IsExpr text May bound depth (binary at op e f) a d
  -- a shift or a stronger form, the operator, NUMBER
  expr_shift : {bound depth : ℕ} {op : ShiftOperator} {at : Place} {e : ExprTree} {by : Num} {a b c d : List Token} →
      bound ≤ 8 →
      IsExpr text May 8 depth e a b → IsMark (token.Sign (shift_sign op)) at b c → May b (height e + 1) →
      IsNumber text by c d → IsExpr text May bound depth (shift at op e by) a d
  -- ( "!" | "~" ) a prefixed form or a primary
  expr_unary : {bound depth : ℕ} {op : UnaryOperator} {at : Place} {e : ExprTree} {a b c : List Token} →
      IsMark (token.Sign (unary_sign op)) at a b → May a (depth + 1) → IsExpr text May 10 (depth + 1) e b c →
      IsExpr text May bound depth (unary at op e) a c
  -- NUMBER
  expr_number : {bound depth : ℕ} {n : Num} {a b : List Token} → IsNumber text n a b →
      IsExpr text May bound depth (number n) a b
  -- "true"
  expr_true : {bound depth : ℕ} {at : Place} {a b : List Token} → IsMark (token.Word word.True) at a b →
      IsExpr text May bound depth (truth at true) a b
  -- "false"
  expr_false : {bound depth : ℕ} {at : Place} {a b : List Token} → IsMark (token.Word word.False) at a b →
      IsExpr text May bound depth (truth at false) a b
  -- path
  expr_path : {bound depth : ℕ} {names : List Ident} {a b : List Token} → IsPath text names a b →
      IsExpr text May bound depth (path names) a b
  -- path "[" expr "]"
  expr_element : {bound depth : ℕ} {names : List Ident} {e : ExprTree} {a b c d f : List Token} →
      IsPath text names a b → Has (token.Sign sign.OpenBracket) b c → May b (depth + 1) →
      IsExpr text May 0 (depth + 1) e c d → Has (token.Sign sign.CloseBracket) d f →
      IsExpr text May bound depth (element names e) a f
  -- "(" expr ")"
  expr_group : {bound depth : ℕ} {at : Place} {e : ExprTree} {a b c d : List Token} →
      IsMark (token.Sign sign.OpenParenthesis) at a b → May a (depth + 1) → IsExpr text May 0 (depth + 1) e b c →
      Has (token.Sign sign.CloseParenthesis) c d → IsExpr text May bound depth (group at e) a d
  -- "uint" "<" NUMBER ">" "(" expr ")"
  expr_cast : {bound depth : ℕ} {at : Place} {n : Num} {e : ExprTree} {a b c d f g h i : List Token} →
      IsMark (token.Word word.Uint) at a b → Has (token.Sign sign.Less) b c → IsNumber text n c d →
      Has (token.Sign sign.Greater) d f → Has (token.Sign sign.OpenParenthesis) f g → May f (depth + 1) →
      IsExpr text May 0 (depth + 1) e g h → Has (token.Sign sign.CloseParenthesis) h i →
      IsExpr text May bound depth (cast at n e) a i
