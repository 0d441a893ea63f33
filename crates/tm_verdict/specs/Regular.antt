-- What the steps of a design of a text have in common, and what is known of a strategy that answers everywhere.
use Rattle.std.specs.Prelude.{◌≡◌, ℕ, true, List}
use Rattle.tm_flat.specs.BitStep.{HasRoom}
use Rattle.tm_sem.specs.declared.state.Move.{Move}
use Rattle.tm_sem.specs.declared.state.Outcome.{Outcome}
use Rattle.tm_sem.specs.State.{StateData}
use Rattle.tm_sem.specs.Step.{IsInitial, IsState, LeadsToState, Step, is_driver_move}
use Rattle.tm_syntax.specs.Design.{DesignTree}

-- its steps fit into the bits that there are, a step from a valid state leads to a valid one, and initial states are
-- valid
pub record IsRegular (d : DesignTree) : Type 0 where
  pub room : HasRoom d
  pub steady : (s : StateData) (move : Move) (choices : List ℕ) (o : Outcome) → IsState d s →
      Step d s move choices o → LeadsToState d o
  pub initial : (s : StateData) → IsInitial d s → IsState d s

-- a strategy answers one move of the driver at each state and goal
pub record IsDriver (answers : StateData → ℕ → Move → Type 0) : Type 0 where
  pub total : (s : StateData) (goal : ℕ) → (move : Move) × answers s goal move
  pub one : (s : StateData) (goal : ℕ) (move other : Move) → answers s goal move → answers s goal other →
      other ≡ move
  pub drives : (s : StateData) (goal : ℕ) (move : Move) → answers s goal move → is_driver_move move ≡ true
