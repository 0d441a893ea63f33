-- Cells whose states have one bit. order is the places of the bits of a state by level.
use Rattle.std.specs.Prelude.{◌≡◌, ℕ, List}
use Rattle.tm_flat_pool.specs.Cells.{SameCell}
use Rattle.tm_flat_pool.specs.Predicates.{Predicate}
use Rattle.tm_game_bits.specs.AssignedStates.{assignment_of}
use Rattle.tm_sem.specs.State.{StateData}
use Rattle.tm_sem.specs.Step.{IsState}
use Rattle.tm_syntax.specs.Design.{DesignTree}

-- the bit of a level is one at all states of a cell
abbrev pub HasOneBit : DesignTree → List ℕ → List Predicate → ℕ → Type 0
HasOneBit d order predicates level =
    (s t : StateData) → IsState d s → IsState d t → SameCell d predicates s t →
    assignment_of d order s level ≡ assignment_of d order t level
