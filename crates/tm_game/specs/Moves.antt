-- The moves of a shape at states, with arguments that levels give.
use Rattle.std.specs.Prelude.{ℕ, ◌<◌, List, length}
use Rattle.std.specs.Option.{option_map_or}
use Rattle.tm_game_bits.specs.Inputs.{arguments_at}
use Rattle.tm_game_bits.specs.AssignedStates.{state_of}
use Rattle.tm_dd.specs.declared.node.NodeId.{NodeId}
use Rattle.tm_dd.specs.Table.{Table}
use Rattle.tm_flat.specs.Flat.{FlatTerms}
use Rattle.tm_flat.specs.Inputs.{arguments_in}
use Rattle.tm_game_bits.specs.Diagrams.{IsSetOf}
use Rattle.tm_game_bits.specs.Functions.{Assignment}
use Rattle.tm_game.specs.declared.moves.MoveShape.{MoveShape}
use Rattle.tm_game.specs.declared.moves.MoveShape.TheVariants.{Idle, Leave, Call}
use Rattle.tm_sem.specs.declared.state.Move.{Move}
use Rattle.tm_sem.specs.declared.state.Move.TheVariants as moves
use Rattle.tm_sem.specs.Forcing.{Keeps}
use Rattle.tm_sem.specs.State.{StateData}
use Rattle.tm_sem.specs.Step.{IsAllowed, IsState, task_of}
use Rattle.tm_syntax.specs.Design.{DesignTree}
use Rattle.tm_syntax.specs.Design.Cells.{Called}

-- the move of a shape; a call has the arguments that values of levels give
abbrev pub move_at : DesignTree → List ℕ → MoveShape → Assignment → Move
move_at d order Idle v = moves.Idle
move_at d order (Leave p) v = moves.Leave p
move_at d order (Call n) v =
    option_map_or (λ (callee : Called). moves.Call n (arguments_in d callee.params (arguments_at order v)))
    (task_of d n) moves.Idle

-- at a valid state a move of the shape is allowed, and for no choices errs or leaves a set
pub record IsGoodMove (d : DesignTree) (within : StateData → Type 0) (s : StateData) (move : Move) : Type 0 where
  pub state : IsState d s
  pub allowed : IsAllowed d s move
  pub keeps : Keeps d within s move

-- an id is true exactly where that is so
abbrev pub AreMoves : DesignTree → List ℕ → Table → MoveShape → (StateData → Type 0) → NodeId → Type 0
AreMoves d order s shape within id =
    IsSetOf s (λ v. IsGoodMove d within (state_of d order v) (move_at d order shape v)) id

-- a task that is to be called is there
abbrev pub HasTask : FlatTerms → MoveShape → Type 0
HasTask f Idle = Unit {0}
HasTask f (Leave p) = Unit {0}
HasTask f (Call n) = n < length f.tasks
