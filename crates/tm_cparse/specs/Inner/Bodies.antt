-- What the readers of the text behind the include say of the whole text.
use Rattle.std.specs.Prelude.{◌≡◌, ℕ, ◌^◌, ◌<◌, ◌≤◌, Bool, IsTrue, List, [], ◌∷◌, ◌++◌, length}
use Rattle.tm_syntax.specs.Design.{DesignTree}
use Rattle.tm_cir.specs.Tree.{BlockTree, test, leave}
use Rattle.tm_cparse.specs.declared.bad.BadDriver.TheVariants.{Text}
use Rattle.tm_cparse.specs.declared.bad.ReadDriverError.{ReadDriverError}
use Rattle.tm_cparse.specs.declared.bad.ReadDriverError.TheVariants.{Bad, Memory}
use Rattle.tm_syntax.specs.Limits.{file_limit}
use Rattle.tm_cparse.specs.declared.spot.Spot.{Spot}
use Rattle.tm_cparse.specs.View.{token_tree, tokens_of}
use Rattle.tm_cparse.specs.Written.{WrittenBlock, AreWritten, Begins}
use Rattle.tm_cparse.specs.Faults.{IsDriverFile}
use Rattle.tm_cparse.specs.Answer.{IsFaultOf}
use Rattle.tm_cparse.specs.Inner.Fronts.{IsBehindInclude}

-- each text with this text behind its include, where that begins on this line, is the driver of these blocks
abbrev pub IsBody : DesignTree → ℕ → List ℕ → List BlockTree → Type 0
IsBody d line body bs =
    (text : List ℕ) → IsBehindInclude text body line → length text ≤ file_limit → IsDriverFile d text bs

-- each such text has this fault
abbrev pub IsBodyFault : DesignTree → ℕ → List ℕ → ReadDriverError → Type 0
IsBodyFault d line body e =
    (text : List ℕ) → IsBehindInclude text body line → length text ≤ file_limit → IsFaultOf d text e

-- the line of the first token that continues no driver, or of the end where the tokens are none
pub data IsTextLine (spots : List Spot) (last : ℕ) (is_whole : Bool) : ℕ → Type 0 where
  at_token : (front others : List Spot) (s : Spot) → spots ≡ front ++ s ∷ others → Begins (tokens_of front) →
      ¬ Begins (tokens_of front ++ token_tree s.token ∷ []) → IsTextLine spots last is_whole s.line
  at_end : Begins (tokens_of spots) →
      (IsTrue is_whole → (bs : List WrittenBlock) → ¬ AreWritten (tokens_of spots) bs) →
      IsTextLine spots last is_whole last

-- why the tokens are no driver with any names
abbrev pub IsTextFault : List Spot → ℕ → Bool → ReadDriverError → Type 0
IsTextFault spots last is_whole (Bad (Text line)) = IsTextLine spots last is_whole line
IsTextFault spots last is_whole (Bad _) = ⊥
IsTextFault spots last is_whole Memory = Unit {0}

-- a block without its label
abbrev pub block_of : WrittenBlock → BlockTree
block_of w = w.block

-- the numbers of a block have 32 bits
abbrev pub IsSmallBlock : BlockTree → Type 0
IsSmallBlock (test t first second) = (first < 2 ^ 32) × (second < 2 ^ 32)
IsSmallBlock (leave p) = p < 2 ^ 32
IsSmallBlock _ = Unit {0}
