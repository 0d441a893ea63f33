-- Designs that can be solved over a game.
use Rattle.std.specs.Prelude.{ℕ, ◌<◌, List, length}
use Rattle.tm_game.specs.Game.{GameData}
use Rattle.tm_sem.specs.State.{StateData}
use Rattle.tm_sem.specs.Step.{IsState, LeadsToState, Step}
use Rattle.tm_sem.specs.declared.state.Move.{Move}
use Rattle.tm_sem.specs.declared.state.Outcome.{Outcome}
use Rattle.tm_syntax.specs.Design.{DesignTree}
use Rattle.tm_solve_exact.specs.Exact.{IsExactOf}

-- a move from a valid state leads to a valid state, if it leads to a state
abbrev pub IsSteady : DesignTree → Type 0
IsSteady d =
    (s : StateData) (move : Move) (choices : List ℕ) (o : Outcome) → IsState d s → Step d s move choices o →
    LeadsToState d o

-- a game is that of a design, whose steps keep to valid states and which has a goal
pub record CanSolve (d : DesignTree) (g : GameData) : Type 0 where
  pub exact : IsExactOf d g
  pub steady : IsSteady d
  pub some_goal : 0 < length g.goals
