-- The grammar of the C text with any names and labels: blocks whose labels and names have numbers, whatever these are.
-- A shift amount is below 64.
use Rattle.std.specs.Prelude.{◌≡◌, ℕ, ◌<◌, All, List, [], ◌∷◌, ◌++◌, length}
use Rattle.tm_cir.specs.Tree.{NumTree, complement, binary, shift, conditional, TruthTree, num, negation, compare, join, BlockTree, test, call}
use Rattle.tm_cir.specs.Text.Token.{Token, word, label, sign, void, driver_turn, open_brace, close_brace, colon}
use Rattle.tm_cir.specs.Text.Grammar.{parenthesized, statement_tokens}

-- a block, and the number of the label before it
pub record WrittenBlock : Type 0 where
  pub label : ℕ
  pub block : BlockTree

-- the tokens of blocks with their labels
abbrev pub written_tokens : List WrittenBlock → List Token
written_tokens [] = []
written_tokens (b ∷ bs) = label b.label ∷ sign colon ∷ statement_tokens b.block ++ written_tokens bs

-- the one function
abbrev pub function_tokens : List WrittenBlock → List Token
function_tokens bs =
    word void ∷ word driver_turn ∷ parenthesized (word void ∷ []) ++ sign open_brace ∷ written_tokens bs
    ++ sign close_brace ∷ []

-- each shift is by less than 64
abbrev mutual
  pub NumInRange : NumTree → Type 0
  NumInRange (complement a) = NumInRange a
  NumInRange (binary op a b) = NumInRange a × NumInRange b
  NumInRange (shift op a by) = NumInRange a × (by < 64)
  NumInRange (conditional t a b) = TruthInRange t × NumInRange a × NumInRange b
  NumInRange _ = Unit {0}

  pub TruthInRange : TruthTree → Type 0
  TruthInRange (num a) = NumInRange a
  TruthInRange (negation t) = TruthInRange t
  TruthInRange (compare op a b) = NumInRange a × NumInRange b
  TruthInRange (join op t u) = TruthInRange t × TruthInRange u

-- each shift in a block is by less than 64
abbrev pub BlockInRange : BlockTree → Type 0
BlockInRange (test t first second) = TruthInRange t
BlockInRange (call k args) = All NumInRange args
BlockInRange _ = Unit {0}

-- the tokens are these blocks, of which there is one
pub record AreWritten (tokens : List Token) (bs : List WrittenBlock) : Type 0 where
  pub some : 0 < length bs
  pub in_range : All (λ (b : WrittenBlock). BlockInRange b.block) bs
  pub are : tokens ≡ function_tokens bs

-- some driver, whatever it names, begins with these tokens (viable prefixes: Aho, Lam, Sethi and Ullman, Compilers,
-- 2006, section 4.5)
pub record Begins (tokens : List Token) : Type 0 where
  pub behind : List Token
  pub blocks : List WrittenBlock
  pub written : AreWritten (tokens ++ behind) blocks
