-- What a driver's blocks do while a goal is pending, as diagrams of a game.
use Rattle.std.specs.Prelude.{◌≡◌, ℕ, ◌<◌, ◌++◌, Bool, true, false, All, Contains, List, Some, length, map, slice_get}
use Rattle.tm_check.specs.declared.replies.Replies.{Replies}
use Rattle.tm_check.specs.declared.replies.Reply.{Reply}
use Rattle.tm_check.specs.declared.replies.Reply.TheVariants as replies
use Rattle.tm_game_bits.specs.AssignedStates.{state_of}
use Rattle.tm_cir.specs.Fit.{FitsNum, FitsTruth}
use Rattle.tm_cir.specs.Meaning.{holds, num_value}
use Rattle.tm_cir.specs.Tree.{BlockTree, call, leave, test}
use Rattle.tm_dd.specs.declared.node.NodeId.{NodeId}
use Rattle.tm_dd.specs.Table.{Knows, Table, means}
use Rattle.tm_ddops.specs.Manager.{IsFunction}
use Rattle.tm_ddops.specs.Operation.{substituted}
use Rattle.tm_flat.specs.Flat.{FlatTerms}
use Rattle.tm_game.specs.declared.moves.MoveShape.{MoveShape}
use Rattle.tm_game.specs.declared.moves.MoveShape.TheVariants as shapes
use Rattle.tm_game.specs.Game.{GameData}
use Rattle.tm_game.specs.Moves.{HasTask, move_at}
use Rattle.tm_sem.specs.declared.state.Move.{Move}
use Rattle.tm_sem.specs.declared.state.Move.TheVariants as moves
use Rattle.tm_sem.specs.State.{StateData}
use Rattle.tm_sem.specs.Step.{IsAllowed}
use Rattle.tm_syntax.specs.Design.{DesignTree}

-- the shape of the move that a block makes; a test makes none
abbrev pub shape_of : BlockTree → MoveShape
shape_of (call task args) = shapes.Call task
shape_of (leave p) = shapes.Leave p
shape_of _ = shapes.Idle

-- the move that a block makes at a state
abbrev pub move_of : ℕ → BlockTree → StateData → Move
move_of goal (call task args) s = moves.Call task (map (num_value s goal) args)
move_of goal (leave p) s = moves.Leave p
move_of goal _ s = moves.Idle

-- the functions of some levels make values of levels tell a move at the state that they tell, where another function
-- holds; elsewhere the move is not allowed
pub record IsMove (d : DesignTree) (order : List ℕ) (s : Table) (move : StateData → Move) (shape : MoveShape)
    (fits : NodeId) (parts : List (ℕ × NodeId)) : Type 0 where
  pub fits_known : Knows s fits
  pub parts_known : (f : NodeId) → Contains (map (λ p. p.1) parts) f → Knows s f
  pub told : (v : ℕ → Bool) → means s fits v ≡ true →
      move_at d order shape (substituted s parts v) ≡ move (state_of d order v)
  pub forbidden : (v : ℕ → Bool) → means s fits v ≡ false →
      ¬ IsAllowed d (state_of d order v) (move (state_of d order v))
  pub one_state : (v : ℕ → Bool) → state_of d order (substituted s parts v) ≡ state_of d order v

-- a reply is the move of a block, whose shape is one of a list
pub record IsMoveOf (d : DesignTree) (order : List ℕ) (s : Table) (goal : ℕ) (known : List MoveShape) (b : BlockTree)
    (number : ℕ) (fits : NodeId) (parts : List (ℕ × NodeId)) : Type 0 where
  pub shape : slice_get known number ≡ Some (shape_of b)
  pub move : IsMove d order s (move_of goal b) (shape_of b) fits parts

-- a reply is what a block does at each state
abbrev pub IsReply : DesignTree → List ℕ → Table → ℕ → List MoveShape → BlockTree → Reply → Type 0
IsReply d order s goal known (test t first second) (replies.Test diagram one other) =
    IsFunction s diagram (λ v. holds (state_of d order v) goal t) × (one ≡ first) × (other ≡ second)
IsReply d order s goal known (test t first second) (replies.Move number fits parts) = ⊥
IsReply d order s goal known b (replies.Test diagram one other) = ⊥
IsReply d order s goal known b (replies.Move number fits parts) =
    IsMoveOf d order s goal known b number fits parts.items

-- the expressions of a block read so many variables and processes, and a task that it calls is there
abbrev pub FitsGame : FlatTerms → ℕ → ℕ → BlockTree → Type 0
FitsGame f vars processes (test t first second) = FitsTruth vars processes t
FitsGame f vars processes (call task args) = (task < length f.tasks) × All (FitsNum vars processes) args
FitsGame f vars processes _ = Unit {0}

-- shapes stand behind others, and their tasks are there
pub record AreAdded (f : FlatTerms) (olds news : List MoveShape) : Type 0 where
  pub more : List MoveShape
  pub behind : news ≡ olds ++ more
  pub tasks : All (HasTask f) more

-- a shape has a number in a list, which is another one or has the shape behind it
pub record IsNumbered (olds : List MoveShape) (shape : MoveShape) (news : List MoveShape) (number : ℕ) : Type 0 where
  pub more : List MoveShape
  pub behind : news ≡ olds ++ more
  pub only : All (λ x. x ≡ shape) more
  pub here : slice_get news number ≡ Some shape

-- the replies are what the blocks do, one for each, and their shapes are of tasks that are there
pub record AreReplies (d : DesignTree) (g : GameData) (goal : ℕ) (bs : List BlockTree) (r : Replies) : Type 0 where
  pub count : length r.list.items ≡ length bs
  pub each : (k : ℕ) (b : BlockTree) (x : Reply) → slice_get bs k ≡ Some b → slice_get r.list.items k ≡ Some x →
      IsReply d g.order g.diagrams.table goal r.shapes.items b x
  pub tasks : All (HasTask g.flat) r.shapes.items
