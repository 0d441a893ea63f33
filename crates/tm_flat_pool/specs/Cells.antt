-- The cells of a list of predicates, the lower and the upper part of a set (de Alfaro and Roy 2007), and what
-- predicates leave undecided.
use Rattle.std.specs.Prelude.{◌≡◌, ℕ, Bool, true, List, All, Some, slice_get}
use Rattle.tm_syntax.specs.Design.{DesignTree}
use Rattle.tm_sem.specs.State.{StateData}
use Rattle.tm_sem.specs.Step.{IsState}
use Rattle.tm_sem.specs.Certificates.{DriverSets, RankedSet, AreRanked, Level, MeetsMoveForm, MeetsEnvironment}
use Rattle.tm_flat_pool.specs.Predicates.{Predicate, predicate_holds}

-- two states are in one cell: each predicate has the same value at both
abbrev pub SameCell : DesignTree → List Predicate → StateData → StateData → Type 0
SameCell d predicates s t = All (λ p. predicate_holds d s p ≡ predicate_holds d t p) predicates

-- the lower part of a set: the cells that lie in it
pub record IsInLower (d : DesignTree) (predicates : List Predicate) (set : StateData → Bool) (s : StateData) :
    Type 0 where
  pub valid : IsState d s
  pub within : (t : StateData) → IsState d t → SameCell d predicates s t → set t ≡ true

-- the upper part of a set: the cells that meet it
pub record IsInUpper (d : DesignTree) (predicates : List Predicate) (set : StateData → Bool) (s : StateData) :
    Type 0 where
  pub valid : IsState d s
  pub meets : (t : StateData) × IsState d t × SameCell d predicates s t × (set t ≡ true)

-- a set is a union of cells
abbrev pub IsUnion : DesignTree → List Predicate → (StateData → Bool) → Type 0
IsUnion d predicates set =
    (s t : StateData) → IsState d s → IsState d t → SameCell d predicates s t → set s ≡ set t

-- the sets of a driver's certificate are unions of cells
pub record AreDriverUnions (d : DesignTree) (predicates : List Predicate) (c : DriverSets) : Type 0 where
  pub region : IsUnion d predicates c.region
  pub ranks : (goal k : ℕ) (ranked : List RankedSet) (r : RankedSet) → AreRanked c goal ranked →
      slice_get ranked k ≡ Some r → IsUnion d predicates r.set

-- the sets of an environment's certificate are unions of cells
pub record AreLevelUnions (d : DesignTree) (predicates : List Predicate) (levels : List Level) : Type 0 where
  pub sets : (k : ℕ) (l : Level) → slice_get levels k ≡ Some l → IsUnion d predicates l.set
  pub chains : (k i x : ℕ) (l : Level) (chain : List (StateData → Bool)) (set : StateData → Bool) →
      slice_get levels k ≡ Some l → slice_get l.chains i ≡ Some chain → slice_get chain x ≡ Some set →
      IsUnion d predicates set

-- predicates leave a design undecided: no sets that are unions of their cells are a certificate of either side
pub record Undecided (d : DesignTree) (predicates : List Predicate) : Type 0 where
  pub driver : (c : DriverSets) → AreDriverUnions d predicates c → ¬ MeetsMoveForm d c
  pub environment : (levels : List Level) → AreLevelUnions d predicates levels → ¬ MeetsEnvironment d levels
