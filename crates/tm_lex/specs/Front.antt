-- The piece at the front of what is left of a text.
use Rattle.std.specs.Prelude.{ℕ, ◌≤◌, Option, List, length, take, drop}
use Rattle.tm_syntax.specs.declared.token.TokenKind.{TokenKind}
use Rattle.tm_syntax.specs.Tokens.{IsPiece, IsLongest}

-- the first `len` bytes are a piece of this kind, and no longer piece begins where they do
pub record IsFirstPiece (bytes : List ℕ) (kind : Option TokenKind) (len : ℕ) : Type 0 where
  pub fits : len ≤ length bytes
  pub is : IsPiece kind (take len bytes)
  pub longest : IsLongest (take len bytes) (drop len bytes)
