-- How functions are numbered. `bs` are the blocks, `rs` tells how they are reached, `order` has the blocks of the
-- functions, and `numbers` for each block the number of its function.
use Rattle.std.specs.Prelude.{◌≡◌, ℕ, ◌+◌, ◌^◌, ◌<◌, ◌≤◌, ◌↔◌, Bool, true, false, List, Option, None, Some, length, slice_get, slice_index_or}
use Rattle.std.specs.Option.{option_map_or}
use Rattle.tm_cir.specs.Tree.{BlockTree}
use Rattle.tm_struct.specs.declared.reaching.Reach.{Reach}
use Rattle.tm_struct.specs.Tree.{ActionTree}
use Rattle.tm_struct.specs.Shape.{IsFunction, IsWritten}
use Rattle.tm_struct.specs.Inner.Reaching.{reach_at, becomes_function}

-- whether a block becomes a function
abbrev pub is_function : List BlockTree → List Reach → ℕ → Bool
is_function bs rs at = option_map_or (λ b. becomes_function b (reach_at rs at)) (slice_get bs at) false

-- the number of the function that a block becomes
abbrev pub number_at : List (Option ℕ) → ℕ → Option ℕ
number_at numbers at = slice_index_or numbers at None

-- each block's number is that of its function
pub record AreNumbers (order : List ℕ) (numbers : List (Option ℕ)) : Type 0 where
  pub to : (at k : ℕ) → number_at numbers at ≡ Some k → slice_get order k ≡ Some at
  pub from : (at k : ℕ) → slice_get order k ≡ Some at → number_at numbers at ≡ Some k

-- the functions of the blocks from a number on, from the last block to the first
pub record AreNamedFrom (bs : List BlockTree) (rs : List Reach) (start : ℕ) (order : List ℕ)
    (numbers : List (Option ℕ)) : Type 0 where
  pub long : length numbers ≡ length bs
  pub numbered : AreNumbers order numbers
  pub falls : (j k one other : ℕ) → j < k → slice_get order j ≡ Some one → slice_get order k ≡ Some other → other < one
  pub are : (k at : ℕ) → slice_get order k ≡ Some at →
      (start ≤ at) × (is_function bs rs at ≡ true) × (k + at < 2 ^ 32)
  pub all : (at : ℕ) → start ≤ at → is_function bs rs at ≡ true → IsFunction order at

-- the functions of all blocks
abbrev pub AreNamed : List BlockTree → List Reach → List ℕ → List (Option ℕ) → Type 0
AreNamed bs rs order numbers = AreNamedFrom bs rs 0 order numbers

-- what the functions do, each the block of its number
pub record AreFunctions (bs : List BlockTree) (order : List ℕ) (functions : List ActionTree) : Type 0 where
  pub many : length functions ≡ length order
  pub each : (k at : ℕ) (a : ActionTree) → slice_get order k ≡ Some at → slice_get functions k ≡ Some a →
      IsWritten bs order at a
