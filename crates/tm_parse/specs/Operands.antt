-- Expressions from the left to the right: an operand, and what operators join to it.
use Rattle.std.specs.Prelude.{◌≡◌, ℕ, ◌+◌, ◌≤◌, Option, Some, None, List, [], ◌∷◌}
use Rattle.tm_base.specs.declared.place.Place.{Place}
use Rattle.tm_syntax.specs.declared.token.Token.{Token}
use Rattle.tm_syntax.specs.declared.token.TokenKind.{TokenKind}
use Rattle.tm_syntax.specs.declared.token.TokenKind.TheVariants as token
use Rattle.tm_syntax.specs.declared.token.Word.TheVariants as word
use Rattle.tm_syntax.specs.declared.token.Sign.{Sign}
use Rattle.tm_syntax.specs.declared.token.Sign.TheVariants as sign
use Rattle.tm_syntax.specs.declared.tree.Ident.{Ident}
use Rattle.tm_syntax.specs.declared.tree.Num.{Num}
use Rattle.tm_syntax.specs.declared.tree.BinaryOperator.{BinaryOperator}
use Rattle.tm_base.specs.declared.shift_operator.ShiftOperator.{ShiftOperator}
use Rattle.tm_syntax.specs.Tree.{ExprTree, path, binary, shift, conditional, element}
use Rattle.tm_syntax.specs.Grammar.Parts.{Has, IsMark, IsNumber}
use Rattle.tm_syntax.specs.Grammar.Expressions.{binary_sign, shift_sign, unary_sign, strength, height, IsExpr}
use Rattle.tm_syntax.specs.declared.tree.UnaryOperator.{UnaryOperator}
use Rattle.tm_parse.specs.declared.operators.Infix.{Infix}
use Rattle.tm_parse.specs.declared.operators.Primary.{Primary}
use Rattle.tm_parse.specs.declared.operators.Primary.TheVariants as primary
use Rattle.tm_parse.specs.declared.operators.Infix.TheVariants as joining
use Rattle.tm_parse.specs.Reading.{Reach, IsBound, Nothing, IsOpening}

-- the sign of an operator behind an expression
abbrev pub infix_sign : Infix → Sign
infix_sign (joining.Binary op) = binary_sign op
infix_sign (joining.Shift op) = shift_sign op

-- how strongly it binds
abbrev pub infix_strength : Infix → ℕ
infix_strength (joining.Binary op) = strength op
infix_strength (joining.Shift op) = 8

-- an expression that binds at least so strongly
abbrev pub AnExpr : List ℕ → ℕ → ℕ → Reach → ExprTree → List Token → List Token → Type 0
AnExpr text bound depth reach e a b = IsExpr text (IsBound reach) bound depth e a b

-- a token goes on with an expression that binds at least so strongly
pub data GoesExpr (bound : ℕ) (kind : Option TokenKind) : Type 0 where
  goes_dot : kind ≡ Some (token.Sign sign.Dot) → GoesExpr bound kind
  goes_bracket : kind ≡ Some (token.Sign sign.OpenBracket) → GoesExpr bound kind
  goes_infix : (op : Infix) → bound ≤ infix_strength op → kind ≡ Some (token.Sign (infix_sign op)) →
      GoesExpr bound kind
  goes_question : bound ≡ 0 → kind ≡ Some (token.Sign sign.Question) → GoesExpr bound kind

-- a token is the sign of a prefix operator
pub data IsPrefix (kind : TokenKind) : Type 0 where
  prefixes : (op : UnaryOperator) → kind ≡ token.Sign (unary_sign op) → IsPrefix kind

-- the primary that begins with a token
abbrev pub primary_of : TokenKind → Option Primary
primary_of token.Number = Some primary.Number
primary_of (token.Word word.True) = Some primary.True
primary_of (token.Word word.False) = Some primary.False
primary_of (token.Word word.Uint) = Some primary.Cast
primary_of token.Name = Some primary.Place
primary_of (token.Sign sign.OpenParenthesis) = Some primary.Group
primary_of _ = None

-- the primary that begins here
abbrev pub primary_at : List Token → Option Primary
primary_at [] = None
primary_at (t ∷ ts) = primary_of t.kind

-- an expression between two signs
pub data IsEnclosed (text : List ℕ) (opening closing : Sign) (depth : ℕ) (reach : Reach) :
    ExprTree → List Token → List Token → Type 0 where
  encloses : {e : ExprTree} {p : Place} {a b c d : List Token} →
      IsOpening (token.Sign opening) depth reach p a b → AnExpr text 0 (depth + 1) reach e b c →
      Has (token.Sign closing) c d → IsEnclosed text opening closing depth reach e a d

-- what stands behind a path: nothing more, or an index
pub data IsPlaceFrom (text : List ℕ) (names : List Ident) (depth : ℕ) (reach : Reach) :
    ExprTree → List Token → List Token → Type 0 where
  from_path : {a : List Token} → IsPlaceFrom text names depth reach (path names) a a
  from_element : {e : ExprTree} {a b : List Token} →
      IsEnclosed text sign.OpenBracket sign.CloseBracket depth reach e a b →
      IsPlaceFrom text names depth reach (element names e) a b

-- the right operand, behind the operator
pub data IsJoined (text : List ℕ) (depth : ℕ) (reach : Reach) (left : ExprTree) (at : Place) :
    Infix → ExprTree → List Token → List Token → Type 0 where
  joins_expr : {op : BinaryOperator} {e : ExprTree} {a b : List Token} →
      AnExpr text (strength op + 1) depth reach e a b →
      IsJoined text depth reach left at (joining.Binary op) (binary at op left e) a b
  joins_number : {op : ShiftOperator} {n : Num} {a b : List Token} → IsNumber text n a b →
      IsJoined text depth reach left at (joining.Shift op) (shift at op left n) a b

-- a token goes on with the right operand of an operator
abbrev pub GoesJoined : Infix → Option TokenKind → Type 0
GoesJoined (joining.Binary op) kind = GoesExpr (strength op + 1) kind
GoesJoined (joining.Shift op) kind = Nothing kind

-- what operators join to an operand: operators that bind at least so strongly, the first at most so strongly, and each
-- at most as strongly as the one before it
pub data IsTail (text : List ℕ) (least depth : ℕ) (reach : Reach) :
    ℕ → ExprTree → ExprTree → List Token → List Token → Type 0 where
  tail_end : {most : ℕ} {e : ExprTree} {a : List Token} → IsTail text least depth reach most e e a a
  tail_more : {most : ℕ} {op : Infix} {at : Place} {l e f : ExprTree} {a b c d : List Token} →
      least ≤ infix_strength op → infix_strength op ≤ most → IsMark (token.Sign (infix_sign op)) at a b →
      IsBound reach a (height l + 1) → IsJoined text depth reach l at op e b c →
      IsTail text least depth reach (infix_strength op) e f c d → IsTail text least depth reach most l f a d

-- what operators join to an operand, as a form
abbrev pub ATail : List ℕ → ℕ → ℕ → ExprTree → Reach → ExprTree → List Token → List Token → Type 0
ATail text least depth left reach e a b = IsTail text least depth reach 9 left e a b

-- what stands behind the test of a conditional expression: nothing more, or its branches
pub data IsChoiceFrom (text : List ℕ) (depth : ℕ) (test : ExprTree) (reach : Reach) :
    ExprTree → List Token → List Token → Type 0 where
  choice_none : {a : List Token} → IsChoiceFrom text depth test reach test a a
  choice_some : {at : Place} {f g : ExprTree} {a b c d e : List Token} →
      IsOpening (token.Sign sign.Question) depth reach at a b → AnExpr text 0 (depth + 1) reach f b c →
      Has (token.Sign sign.Colon) c d → AnExpr text 0 (depth + 1) reach g d e →
      IsChoiceFrom text depth test reach (conditional at test f g) a e

-- what makes an operand a whole expression
pub data IsExprFrom (text : List ℕ) (depth : ℕ) (left : ExprTree) (reach : Reach) :
    ExprTree → List Token → List Token → Type 0 where
  from_tail : {e f : ExprTree} {a b c : List Token} → ATail text 1 depth left reach e a b →
      IsChoiceFrom text depth e reach f b c → IsExprFrom text depth left reach f a c
