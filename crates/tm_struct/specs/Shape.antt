-- The shape of blocks: the one structured driver in which each block that is reached is written once, but for the idle
-- ones. `bs` are the blocks, and `order` has the blocks of the functions, in the order of the functions.
use Rattle.std.specs.Prelude.{◌≡◌, ◌≢◌, ℕ, ◌+◌, ◌<◌, ◌≤◌, ◌⊎◌, ◌↔◌, Bool, true, false, List, Some, length, slice_get, sum_by}
use Rattle.tm_cir.specs.Tree.{NumTree, TruthTree, BlockTree, test}
use Rattle.tm_cir.specs.Tree as blocks
use Rattle.tm_struct.specs.Tree.{ActionTree, choose, call, leave, go, idle, ProgramTree}
use Rattle.tm_struct.specs.Fit.{most_ifs}

-- a test leads to a block by a branch: the first one, where it holds, or the other one
pub data Leads (bs : List BlockTree) (from : ℕ) : Bool → ℕ → Type 0 where
  first : {t : TruthTree} {at other : ℕ} → slice_get bs from ≡ Some (test t at other) → Leads bs from true at
  second : {t : TruthTree} {other at : ℕ} → slice_get bs from ≡ Some (test t other at) → Leads bs from false at

-- the tests lead from the first block to this one
pub data IsReached (bs : List BlockTree) : ℕ → Type 0 where
  begins : IsReached bs 0
  goes_on : {from at : ℕ} {branch : Bool} → IsReached bs from → Leads bs from branch at → IsReached bs at

-- a branch of a test that is reached
pub record IsBranch (bs : List BlockTree) (at from : ℕ) (branch : Bool) : Type 0 where
  pub reached : IsReached bs from
  pub leads : Leads bs from branch at

-- two branches or more lead to the block
pub record IsShared (bs : List BlockTree) (at : ℕ) : Type 0 where
  pub one : ℕ
  pub one_branch : Bool
  pub other : ℕ
  pub other_branch : Bool
  pub is : IsBranch bs at one one_branch
  pub also : IsBranch bs at other other_branch
  pub differ : (one ≢ other) ⊎ (one_branch ≢ other_branch)

-- the block is that of a function
abbrev pub IsFunction : List ℕ → ℕ → Type 0
IsFunction order at = (k : ℕ) × (slice_get order k ≡ Some at)

-- the block is written inside so many open `if`
pub data StandsInside (bs : List BlockTree) (order : List ℕ) : ℕ → ℕ → Type 0 where
  in_main : StandsInside bs order 0 0
  in_function : {at : ℕ} → IsFunction order at → StandsInside bs order at 0
  further : {at from inside : ℕ} {branch : Bool} → IsBranch bs at from branch → ¬ IsFunction order at →
      StandsInside bs order from inside → StandsInside bs order at (inside + 1)

-- a test that would stand inside as many `if` as may be open
pub record IsTooDeep (bs : List BlockTree) (order : List ℕ) (at : ℕ) : Type 0 where
  pub truth : TruthTree
  pub one : ℕ
  pub other : ℕ
  pub is_test : slice_get bs at ≡ Some (test truth one other)
  pub from : ℕ
  pub branch : Bool
  pub inside : ℕ
  pub is : IsBranch bs at from branch
  pub stands : StandsInside bs order from inside
  pub deep : most_ifs ≤ inside + 1

-- a block becomes a function where it is reached and not idle, and is shared or a test that would stand too deep
pub record BecomesFunction (bs : List BlockTree) (order : List ℕ) (at : ℕ) : Type 0 where
  pub reached : IsReached bs at
  pub busy : slice_get bs at ≢ Some blocks.idle
  pub why : IsShared bs at ⊎ IsTooDeep bs order at

mutual
  -- the action is the block, written in place
  pub data IsWritten (bs : List BlockTree) (order : List ℕ) : ℕ → ActionTree → Type 0 where
    tests : {at first second : ℕ} {t : TruthTree} {a b : ActionTree} → slice_get bs at ≡ Some (test t first second) →
        IsNamed bs order first a → IsNamed bs order second b → IsWritten bs order at (choose t a b)
    calls : {at task : ℕ} {args : List NumTree} → slice_get bs at ≡ Some (blocks.call task args) →
        IsWritten bs order at (call task args)
    leaves : {at process : ℕ} → slice_get bs at ≡ Some (blocks.leave process) → IsWritten bs order at (leave process)
    idles : {at : ℕ} → slice_get bs at ≡ Some blocks.idle → IsWritten bs order at idle

  -- the action is what a branch to the block is written as
  pub data IsNamed (bs : List BlockTree) (order : List ℕ) : ℕ → ActionTree → Type 0 where
    by_name : {at k : ℕ} → slice_get order k ≡ Some at → IsNamed bs order at (go k)
    in_place : {at : ℕ} {a : ActionTree} → ¬ IsFunction order at → IsWritten bs order at a → IsNamed bs order at a

-- the driver is the shape of the blocks
pub record IsShape (bs : List BlockTree) (p : ProgramTree) : Type 0 where
  pub order : List ℕ
  pub falls : (j k one other : ℕ) → j < k → slice_get order j ≡ Some one → slice_get order k ≡ Some other → other < one
  pub chosen : (at : ℕ) → IsFunction order at ↔ BecomesFunction bs order at
  pub many : length p.functions ≡ length order
  pub functions : (k at : ℕ) (a : ActionTree) → slice_get order k ≡ Some at → slice_get p.functions k ≡ Some a →
      IsWritten bs order at a
  pub main : IsWritten bs order 0 p.main

-- the number of calls of tasks and of leaves in an action
abbrev pub moves_in : ActionTree → ℕ
moves_in (choose t a b) = moves_in a + moves_in b
moves_in (call task args) = 1
moves_in (leave p) = 1
moves_in a = 0

-- the number of those in a driver
abbrev pub move_count : ProgramTree → ℕ
move_count p = sum_by moves_in p.functions + moves_in p.main

-- the block is a call or a leave
abbrev pub IsMove : BlockTree → Type 0
IsMove (blocks.call task args) = Unit {0}
IsMove (blocks.leave p) = Unit {0}
IsMove b = ⊥

-- a call or a leave that is reached
pub record IsReachedMove (bs : List BlockTree) (at : ℕ) : Type 0 where
  pub reached : IsReached bs at
  pub block : BlockTree
  pub is : slice_get bs at ≡ Some block
  pub move : IsMove block

-- so many calls and leaves are reached: some list has each of them once
pub record HasMoves (bs : List BlockTree) (count : ℕ) : Type 0 where
  pub list : List ℕ
  pub once : (j k at : ℕ) → slice_get list j ≡ Some at → slice_get list k ≡ Some at → j ≡ k
  pub are : (at : ℕ) → ((k : ℕ) × (slice_get list k ≡ Some at)) ↔ IsReachedMove bs at
  pub many : length list ≡ count
