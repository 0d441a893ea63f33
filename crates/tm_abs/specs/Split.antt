-- Cells that a set cuts.
-- d a design, predicates those that are tracked, set a set of states.
use Rattle.std.specs.Prelude.{◌≡◌, ◌↔◌, Bool, true, false, List}
use Rattle.tm_flat_pool.specs.Cells.{IsInLower, IsInUpper, SameCell}
use Rattle.tm_flat_pool.specs.Predicates.{Predicate}
use Rattle.tm_sem.specs.State.{StateData}
use Rattle.tm_sem.specs.Step.{IsState}
use Rattle.tm_syntax.specs.Design.{DesignTree}

-- the lower and the upper part of a set are one
abbrev pub PartsAreOne : DesignTree → List Predicate → (StateData → Bool) → Type 0
PartsAreOne d predicates set = (s : StateData) → IsInLower d predicates set s ↔ IsInUpper d predicates set s

-- two valid states of one cell, the first in the set and the second not
pub record IsCut (d : DesignTree) (predicates : List Predicate) (set : StateData → Bool) (inside out : StateData) :
    Type 0 where
  pub inside_valid : IsState d inside
  pub out_valid : IsState d out
  pub cell : SameCell d predicates inside out
  pub inside_it : set inside ≡ true
  pub out_of_it : set out ≡ false
