-- What the code's table tells of how blocks are reached. `bs` are the blocks, `rs` is the table, and the branches are
-- followed in the order of the tests, so that `count` of them were.
use Rattle.std.specs.Prelude.{◌≡◌, ◌≢◌, ℕ, ◌+◌, ◌*◌, ◌^◌, ◌<◌, ◌≤◌, ◌⊎◌, ◌||◌, Bool, true, false, List, Option, None, Some, length, nat_lt, nat_le, slice_get, slice_set, slice_index_or, if◌then◌else◌}
use Rattle.tm_cir.specs.Tree.{TruthTree, BlockTree, test, idle}
use Rattle.tm_struct.specs.declared.reaching.Reach.{Reach}
use Rattle.tm_struct.specs.declared.reaching.Reach.TheVariants.{Never, Once, Often}
use Rattle.tm_struct.specs.Fit.{most_ifs}
use Rattle.tm_struct.specs.Shape.{IsBranch}

-- there is a block, and tests lead to later ones that there are
pub record LeadOn (bs : List BlockTree) : Type 0 where
  pub some : 0 < length bs
  pub later : (at first second : ℕ) (t : TruthTree) → slice_get bs at ≡ Some (test t first second) →
      (at < first) × (first < length bs) × (at < second) × (second < length bs)

-- the blocks to which a block leads, if it is a test
abbrev pub branches_of : BlockTree → Option (ℕ × ℕ)
branches_of (test t first second) = Some (first, second)
branches_of b = None

-- how a block is reached
abbrev pub reach_at : List Reach → ℕ → Reach
reach_at rs at = slice_index_or rs at Never

-- how many `if` are open inside a test that is reached so
abbrev pub ifs_inside : Reach → Option ℕ
ifs_inside Never = None
ifs_inside (Once around) = Some (if nat_lt around most_ifs then around + 1 else 1)
ifs_inside Often = Some 1

-- a block that was reached so, with one branch more
abbrev pub once_more : Reach → ℕ → Reach
once_more Never inside = Once inside
once_more r inside = Often

-- the table, with one branch more to a block
abbrev pub marked : List Reach → ℕ → ℕ → List Reach
marked rs at inside = slice_set rs at (once_more (reach_at rs at) inside)

-- the table, with both branches of a test inside which so many `if` are open, if it is reached
abbrev pub both_marked : Option ℕ → List Reach → ℕ → ℕ → List Reach
both_marked None rs first second = rs
both_marked (Some inside) rs first second = marked (marked rs first inside) second inside

-- two branches or more lead to a block
abbrev pub is_often : Reach → Bool
is_often Often = true
is_often r = false

-- a test would stand inside as many `if` as may be open
abbrev pub is_too_deep : Reach → Bool
is_too_deep (Once around) = nat_le most_ifs around
is_too_deep r = false

-- a block that is reached so becomes a function
abbrev pub becomes_function : BlockTree → Reach → Bool
becomes_function (test t first second) r = is_often r || is_too_deep r
becomes_function idle r = false
becomes_function b r = is_often r

-- the number of a branch, in the order of the tests
abbrev pub branch_number : ℕ → Bool → ℕ
branch_number from true = 2 * from
branch_number from false = 2 * from + 1

-- a branch to the block that was followed
pub record IsFollowed (bs : List BlockTree) (count at from : ℕ) (branch : Bool) : Type 0 where
  pub is : IsBranch bs at from branch
  pub below : branch_number from branch < count

-- one branch to the block was followed, inside so many `if`
pub record HasOne (bs : List BlockTree) (rs : List Reach) (count at inside : ℕ) : Type 0 where
  pub from : ℕ
  pub branch : Bool
  pub followed : IsFollowed bs count at from branch
  pub inside_is : ifs_inside (reach_at rs from) ≡ Some inside
  pub only : (other : ℕ) (side : Bool) → IsFollowed bs count at other side → (other ≡ from) × (side ≡ branch)

-- two branches to the block were followed
pub record HasTwo (bs : List BlockTree) (count at : ℕ) : Type 0 where
  pub one : ℕ
  pub one_branch : Bool
  pub other : ℕ
  pub other_branch : Bool
  pub is : IsFollowed bs count at one one_branch
  pub also : IsFollowed bs count at other other_branch
  pub differ : (one ≢ other) ⊎ (one_branch ≢ other_branch)

-- what the table tells of a block; the first one is where a turn begins
abbrev pub Tells : List BlockTree → List Reach → ℕ → ℕ → Reach → Type 0
Tells bs rs count at Never = (at ≢ 0) × ((from : ℕ) (branch : Bool) → ¬ IsFollowed bs count at from branch)
Tells bs rs count at (Once inside) = ((at ≡ 0) × (inside ≡ 0)) ⊎ HasOne bs rs count at inside
Tells bs rs count at Often = HasTwo bs count at

-- the table, where so many branches were followed; a block that is reached has a number of 32 bits
pub record IsTable (bs : List BlockTree) (rs : List Reach) (count : ℕ) : Type 0 where
  pub long : length rs ≡ length bs
  pub tells : (at : ℕ) → at < length bs → Tells bs rs count at (reach_at rs at)
  pub small : (at : ℕ) → reach_at rs at ≢ Never → at < 2 ^ 32

-- the table, where all branches were followed
abbrev pub AreReaches : List BlockTree → List Reach → Type 0
AreReaches bs rs = IsTable bs rs (2 * length bs)
