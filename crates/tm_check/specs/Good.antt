-- Where a driver's answer is good for a set.
use Rattle.std.specs.Prelude.{◌≡◌, ℕ, ◌-◌, ◌<◌, ◌&&◌, All, Contains, List, Some, length, map, slice_get, if◌then◌else◌}
use Rattle.tm_check.specs.declared.replies.Replies.{Replies}
use Rattle.tm_check.specs.declared.replies.Reply.{Reply}
use Rattle.tm_check.specs.declared.replies.Reply.TheVariants as replies
use Rattle.tm_check.specs.Replies.{AreReplies}
use Rattle.tm_cir.specs.Answer.{AnswersFrom}
use Rattle.tm_cir.specs.Fit.{FitBlocks}
use Rattle.tm_cir.specs.Tree.{BlockTree}
use Rattle.tm_dd.specs.declared.node.NodeId.{NodeId}
use Rattle.tm_dd.specs.Table.{Knows, Table, means}
use Rattle.tm_ddops.specs.Manager.{IsFunction}
use Rattle.tm_ddops.specs.Operation.{substituted}
use Rattle.tm_game.specs.declared.moves.MoveShape.{MoveShape}
use Rattle.tm_game.specs.Game.{GameData, IsOf}
use Rattle.tm_game.specs.Moves.{AreMoves, IsGoodMove}
use Rattle.tm_sem.specs.declared.state.Move.{Move}
use Rattle.tm_sem.specs.State.{StateData}
use Rattle.tm_syntax.specs.Design.{DesignTree}

-- the move to which the tests lead from a block on is allowed, errs for no choices, and ends in a set
abbrev pub IsGoodFrom : DesignTree → List BlockTree → ℕ → (StateData → Type 0) → ℕ → StateData → Type 0
IsGoodFrom d bs goal within at s = (move : Move) → AnswersFrom bs s goal at move → IsGoodMove d within s move

-- the answer of the blocks is
abbrev pub IsAnsweredWell : DesignTree → List BlockTree → ℕ → (StateData → Type 0) → StateData → Type 0
IsAnsweredWell d bs goal within s = IsGoodFrom d bs goal within 0 s

-- replies are those of some blocks that fit a design, whose game it is
abbrev pub HasReplies : GameData → Replies → Type 0
HasReplies g r =
    (d : DesignTree) × (goal : ℕ) × (bs : List BlockTree) × IsOf d g × FitBlocks d bs × AreReplies d g goal bs r

-- ids are the good moves of shapes, one for each
pub record AreMovesFor (d : DesignTree) (order : List ℕ) (s : Table) (within : StateData → Type 0)
    (shapes : List MoveShape) (ids : List NodeId) : Type 0 where
  pub known : All (Knows s) ids
  pub count : length ids ≡ length shapes
  pub each : (k : ℕ) (shape : MoveShape) (id : NodeId) → slice_get shapes k ≡ Some shape → slice_get ids k ≡ Some id →
      AreMoves d order s shape within id

-- a reply leads on to blocks behind which so many are known, from the last on, or moves by one of some shapes
abbrev pub FitsReply : Table → List NodeId → List NodeId → ℕ → Reply → Type 0
FitsReply s moves from_last count (replies.Test holds first second) =
    Knows s holds × All (Knows s) from_last × (first < count) × (count - 1 - first < length from_last)
    × (second < count) × (count - 1 - second < length from_last)
FitsReply s moves from_last count (replies.Move shape fits parts) =
    Knows s fits × All (Knows s) moves × (shape < length moves)
    × ((f : NodeId) → Contains (map (λ p. p.1) parts.items) f → Knows s f)

-- an id holds where a reply ends well
abbrev pub IsGoodReply : Table → Table → List NodeId → List NodeId → ℕ → Reply → NodeId → Type 0
IsGoodReply s t moves from_last count (replies.Test holds first second) id =
    (one other : NodeId) → slice_get from_last (count - 1 - first) ≡ Some one →
    slice_get from_last (count - 1 - second) ≡ Some other →
    IsFunction t id (λ v. if means s holds v then means s one v else means s other v)
IsGoodReply s t moves from_last count (replies.Move shape fits parts) id =
    (move : NodeId) → slice_get moves shape ≡ Some move →
    IsFunction t id (λ v. means s move (substituted s parts.items v) && means s fits v)
