-- States of a design as values of levels.
use Rattle.std.specs.Prelude.{◌≡◌, ℕ, true}
use Rattle.tm_game_bits.specs.Functions.{Assignment, Function}
use Rattle.tm_game_bits.specs.States.{AreOneState}
use Rattle.tm_sem.specs.State.{StateData}
use Rattle.tm_sem.specs.Step.{IsState}
use Rattle.tm_syntax.specs.Design.{DesignTree}

-- how many levels are of a state, the state that the values of levels tell, and values of levels that tell a state
pub record Coding : Type 0 where
  pub count : ℕ
  pub state_of : Assignment → StateData
  pub assignment_of : StateData → Assignment

-- a valid state is told by its values, and two assignments are of one state exactly where they tell one
pub record IsCoding (d : DesignTree) (c : Coding) : Type 0 where
  pub back : (s : StateData) → IsState d s → c.state_of (c.assignment_of s) ≡ s
  pub again : (v : Assignment) → c.state_of (c.assignment_of (c.state_of v)) ≡ c.state_of v
  pub same : (v w : Assignment) → AreOneState c.count v w → c.state_of v ≡ c.state_of w
  pub one : (v w : Assignment) → c.state_of v ≡ c.state_of w → AreOneState c.count v w

-- a state is in a set of values of levels
abbrev pub IsIn : Coding → Function → StateData → Type 0
IsIn c set s = set (c.assignment_of s) ≡ true
