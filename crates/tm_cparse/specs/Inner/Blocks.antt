-- Blocks and the function around them, as their readers take them.
use Rattle.std.specs.Prelude.{◌≡◌, ℕ, ◌<◌, ◌≤◌, All, List, ◌∷◌, ◌++◌, length, take, drop}
use Rattle.tm_cir.specs.Text.Token.{Token, label, sign, colon, close_brace}
use Rattle.tm_cir.specs.Text.Grammar.{statement_tokens}
use Rattle.tm_cparse.specs.declared.statement.NoFunction.{NoFunction}
use Rattle.tm_cparse.specs.declared.statement.NoFunction.TheVariants.{At, Memory}
use Rattle.tm_cparse.specs.Written.{WrittenBlock, written_tokens, function_tokens, BlockInRange, AreWritten, Begins}
use Rattle.tm_cparse.specs.Inner.Reading.{first_of}

-- a block with its label, and what follows it
pub record IsBlock (b : WrittenBlock) (tokens rest : List Token) : Type 0 where
  pub in_range : BlockInRange b.block
  pub are : tokens ≡ label b.label ∷ sign colon ∷ (statement_tokens b.block ++ rest)

-- blocks of which the first were read, at least one that is left and the brace that closes, and what follows it
pub record AreBlocksLeft (read : List WrittenBlock) (bs : List WrittenBlock) (tokens rest : List Token) :
    Type 0 where
  pub first : WrittenBlock
  pub others : List WrittenBlock
  pub whole : bs ≡ read ++ first ∷ others
  pub first_in_range : BlockInRange first.block
  pub in_range : All (λ (b : WrittenBlock). BlockInRange b.block) others
  pub are : tokens
      ≡ label first.label ∷ sign colon
      ∷ (statement_tokens first.block ++ (written_tokens others ++ sign close_brace ∷ rest))

-- blocks of which the first were read, those that are left, if any, and the brace that closes, and what follows it
pub record AreBlocksBehind (read : List WrittenBlock) (bs : List WrittenBlock) (tokens rest : List Token) :
    Type 0 where
  pub others : List WrittenBlock
  pub whole : bs ≡ read ++ others
  pub in_range : All (λ (b : WrittenBlock). BlockInRange b.block) others
  pub are : tokens ≡ written_tokens others ++ sign close_brace ∷ rest

-- the function around these blocks, of which there is one, and what follows it
pub record IsFunction (bs : List WrittenBlock) (tokens rest : List Token) : Type 0 where
  pub some : 0 < length bs
  pub in_range : All (λ (b : WrittenBlock). BlockInRange b.block) bs
  pub are : tokens ≡ function_tokens bs ++ rest

-- some driver begins with the tokens before this place, and none goes on with the token there, or ends where they end
pub record IsStuckAt (tokens : List Token) (place : ℕ) : Type 0 where
  pub within : place ≤ length tokens
  pub begins : Begins (take place tokens)
  pub stuck : (bs : List WrittenBlock) (other : List Token) → first_of other ≡ first_of (drop place tokens) →
      ¬ AreWritten (take place tokens ++ other) bs

-- why the tokens are no driver; of want of memory nothing is said
abbrev pub IsNoFunction : List Token → NoFunction → Type 0
IsNoFunction tokens (At place) = IsStuckAt tokens place
IsNoFunction tokens Memory = Unit {0}
