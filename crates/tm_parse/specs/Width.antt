-- The width of numbers, as types and casts write it.
use Rattle.std.specs.Prelude.{ℕ, List}
use Rattle.tm_syntax.specs.declared.token.Token.{Token}
use Rattle.tm_syntax.specs.declared.token.TokenKind.TheVariants as token
use Rattle.tm_syntax.specs.declared.token.Sign.TheVariants as sign
use Rattle.tm_syntax.specs.declared.tree.Num.{Num}
use Rattle.tm_syntax.specs.Grammar.Parts.{Has, IsNumber}

-- "<" NUMBER ">"
pub data IsWidth (text : List ℕ) : Num → List Token → List Token → Type 0 where
  width : {n : Num} {a b c d : List Token} → Has (token.Sign sign.Less) a b → IsNumber text n b c →
      Has (token.Sign sign.Greater) c d → IsWidth text n a d
