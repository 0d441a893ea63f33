-- Values of levels at a state and at arguments, as contracts within the crate see them.
use Rattle.std.specs.Prelude.{◌≡◌, ℕ, ◌+◌, ◌<◌, Bool, List, length}
use Rattle.tm_game_bits.specs.AssignedStates.{state_of}
use Rattle.tm_dd.specs.Table.{assignment}
use Rattle.tm_game.specs.Game.{GameData, IsOf}
use Rattle.tm_sem.specs.State.{StateData}
use Rattle.tm_sem.specs.Step.{IsState}
use Rattle.tm_syntax.specs.Design.{DesignTree}

-- one value for each level, which tell a state and bits of arguments
pub record AreValuesAt (g : GameData) (s : StateData) (arguments values : List Bool) : Type 0 where
  pub long : length values ≡ g.diagrams.table.levels
  pub state : (d : DesignTree) → IsOf d g → IsState d s → state_of d g.order (assignment values) ≡ s
  pub given : (j : ℕ) → j < 64 → assignment values (length g.order + j) ≡ assignment arguments j
