-- Why predicates are tracked: the first of the pool that tells two states apart (as in Walker and Ryzhyk 2014).
-- d a design, ps the predicates of its pool, s and t states, a an addition.
use Rattle.std.specs.Prelude.{◌≡◌, ℕ, ◌<◌, List, [], ◌∷◌, ◌++◌, map, slice_get, Some}
use Rattle.tm_flat_pool.specs.Cells.{SameCell, Undecided}
use Rattle.tm_flat_pool.specs.Predicates.{Predicate, predicate_holds}
use Rattle.tm_game_pool.specs.Separating.{predicates_at}
use Rattle.tm_refine.specs.declared.trace.Added.{Added}
use Rattle.tm_sem.specs.State.{StateData}
use Rattle.tm_sem.specs.Step.{IsState}
use Rattle.tm_syntax.specs.Design.{DesignTree}

-- the predicate of this number tells two states apart, and no earlier one does
pub record TellsFirst (d : DesignTree) (ps : List Predicate) (s t : StateData) (k : ℕ) : Type 0 where
  pub predicate : Predicate
  pub at : slice_get ps k ≡ Some predicate
  pub apart : ¬ (predicate_holds d s predicate ≡ predicate_holds d t predicate)
  pub before : (i : ℕ) (p : Predicate) → i < k → slice_get ps i ≡ Some p →
      predicate_holds d s p ≡ predicate_holds d t p

-- a predicate was added for a reason: it is the first of the pool that tells apart two valid states of one cell of
-- those before it, and these had left the design undecided
pub record IsReason (d : DesignTree) (ps : List Predicate) (tracked : List ℕ) (a : Added) : Type 0 where
  pub left : IsState d a.left
  pub right : IsState d a.right
  pub one_cell : SameCell d (predicates_at ps tracked) a.left a.right
  pub first : TellsFirst d ps a.left a.right a.predicate
  pub undecided : Undecided d (predicates_at ps tracked)

-- each of some predicates was, over those tracked before it
abbrev pub AreReasons : DesignTree → List Predicate → List ℕ → List Added → Type 0
AreReasons d ps tracked [] = Unit {0}
AreReasons d ps tracked (a ∷ xs) =
    IsReason d ps tracked a × AreReasons d ps (tracked ++ a.predicate ∷ []) xs

-- the numbers that are tracked after some additions
abbrev pub tracked_by : List ℕ → List Added → List ℕ
tracked_by tracked added = tracked ++ map (λ (a : Added). a.predicate) added
