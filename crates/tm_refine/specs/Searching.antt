-- What a search for the first decided predicates knows of a design.
use Rattle.std.specs.Prelude.{◌≡◌, ℕ, ◌+◌, ◌<◌, ◌≤◌, Bool, true, false, List, [], ◌∷◌, ◌++◌, length, take, Option, Some, None}
use Rattle.std.specs.List.{range_with_len}
use Rattle.tm_refine.specs.declared.trace.Added.{Added}
use Rattle.tm_solve.specs.declared.iterates.Iterates.{Iterates}
use Rattle.tm_syntax.specs.Design.{DesignTree}
use Rattle.tm_sem.specs.State.{StateData}
use Rattle.tm_sem.specs.Step.{IsState}
use Rattle.tm_sem.specs.Certificates.{DriverSets, Level, MeetsEnvironment, MeetsMoveForm}
use Rattle.tm_flat_pool.specs.Predicates.{Predicate, pool}
use Rattle.tm_flat_pool.specs.Cells.{AreDriverUnions, AreLevelUnions, SameCell}
use Rattle.tm_refine.specs.Numbers.{left_below}
use Rattle.tm_solve.specs.Ids.{Ids}
use Rattle.tm_solve.specs.Iterates.{KnowsAll, driver_sets, levels_of}
use Rattle.tm_refine.specs.Reasons.{TellsFirst, tracked_by}
use Rattle.tm_game_pool.specs.Separating.{predicates_at}

-- states of one cell of the first predicates are in one cell of the second ones
abbrev pub Refines : DesignTree → List Predicate → List Predicate → Type 0
Refines d finer coarser =
    (s t : StateData) → IsState d s → IsState d t → SameCell d finer s t → SameCell d coarser s t

-- no sets that are unions of these cells are a certificate of a side: the environment's, or the driver's
abbrev pub NoneOf : DesignTree → List Predicate → Bool → Type 0
NoneOf d predicates true = (levels : List Level) → AreLevelUnions d predicates levels → ¬ MeetsEnvironment d levels
NoneOf d predicates false = (c : DriverSets) → AreDriverUnions d predicates c → ¬ MeetsMoveForm d c

-- no sets at all are one of the other side
abbrev pub NoOther : DesignTree → Bool → Type 0
NoOther d true = (c : DriverSets) → ¬ MeetsMoveForm d c
NoOther d false = (levels : List Level) → ¬ MeetsEnvironment d levels

-- some sets are a certificate of a side
abbrev pub HasOwn : DesignTree → Bool → Type 0
HasOwn d true = (levels : List Level) × MeetsEnvironment d levels
HasOwn d false = (c : DriverSets) × MeetsMoveForm d c

-- a solution is a certificate of a side
abbrev pub Certifies : DesignTree → Bool → Ids → Iterates → Type 0
Certifies d true ids it = MeetsEnvironment d (levels_of ids it)
Certifies d false ids it = MeetsMoveForm d (driver_sets ids it)

-- its sets of that side are unions of cells
abbrev pub AreUnions : DesignTree → List Predicate → Bool → Ids → Iterates → Type 0
AreUnions d predicates true ids it = AreLevelUnions d predicates (levels_of ids it)
AreUnions d predicates false ids it = AreDriverUnions d predicates (driver_sets ids it)

-- a side wins: it has a certificate, and the other side has none
pub record IsNamed (d : DesignTree) (upper : Bool) : Type 0 where
  pub other : NoOther d upper
  pub own : HasOwn d upper

-- a solution over cells is a certificate
pub record IsWon (d : DesignTree) (predicates : List Predicate) (upper : Bool) (ids : Ids) (it : Iterates) : Type 0
  where
    pub meets : Certifies d upper ids it
    pub unions : AreUnions d predicates upper ids it

-- two valid states of one cell that are not one
pub record IsParted (d : DesignTree) (predicates : List Predicate) (left right : StateData) : Type 0 where
  pub one : IsState d left
  pub other : IsState d right
  pub one_cell : SameCell d predicates left right
  pub two : ¬ (left ≡ right)

-- a predicate is the first of the pool that tells apart two valid states of one cell of those before it
pub record IsPair (d : DesignTree) (ps : List Predicate) (tracked : List ℕ) (a : Added) : Type 0 where
  pub left : IsState d a.left
  pub right : IsState d a.right
  pub one_cell : SameCell d (predicates_at ps tracked) a.left a.right
  pub first : TellsFirst d ps a.left a.right a.predicate

abbrev pub ArePairs : DesignTree → List Predicate → List ℕ → List Added → Type 0
ArePairs d ps tracked [] = Unit {0}
ArePairs d ps tracked (a ∷ xs) = IsPair d ps tracked a × ArePairs d ps (tracked ++ a.predicate ∷ []) xs

-- the predicates that the first so many additions track
abbrev pub tracked_at : DesignTree → ℕ → List Added → ℕ → List Predicate
tracked_at d first added k = predicates_at (pool d) (tracked_by (range_with_len 0 first) (take k added))

-- what stands throughout a search
pub record IsSearching (d : DesignTree) (first : ℕ) (tracked : List ℕ) (added : List Added) : Type 0 where
  pub numbers : tracked ≡ tracked_by (range_with_len 0 first) added
  pub room : length tracked + left_below (length (pool d)) tracked ≡ length (pool d)
  pub pairs : ArePairs d (pool d) (range_with_len 0 first) added

-- the side fails over each of the first so many prefixes
pub record AreFailed (d : DesignTree) (first : ℕ) (added : List Added) (upper : Bool) (count : ℕ) : Type 0 where
  pub none : (k : ℕ) → k < count → NoneOf d (tracked_at d first added k) upper

-- the side wins over a prefix
pub record IsWonAt (d : DesignTree) (first : ℕ) (added : List Added) (upper : Bool) (ids : Ids) (it : Iterates)
    (count : ℕ) : Type 0 where
  pub within : count ≤ length added
  pub won : IsWon d (tracked_at d first added count) upper ids it

-- one predicate more
pub record IsOneMore (of : DesignTree → Type 0) (left right : StateData) (tracked tracked' : List ℕ)
    (added added' : List Added) : Type 0 where
  pub predicate : ℕ
  pub numbers : tracked' ≡ tracked ++ predicate ∷ []
  pub items : added' ≡ added ++ record { predicate = predicate; left = left; right = right } ∷ []
  pub tells : (d : DesignTree) → of d → TellsFirst d (pool d) left right predicate

-- each id of a solution is known, where there is one
abbrev pub KnowsSome : Ids → Option Iterates → Type 0
KnowsSome ids None = Unit {0}
KnowsSome ids (Some it) = KnowsAll ids it

-- the first prefix over which the side wins
pub record IsFirst (d : DesignTree) (first : ℕ) (added : List Added) (upper : Bool) (ids : Ids) (it : Iterates)
    (count : ℕ) : Type 0 where
  pub failed : AreFailed d first added upper count
  pub won : IsWonAt d first added upper ids it count
