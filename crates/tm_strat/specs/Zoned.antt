-- Moves that are good from the states of a zone, for the zone's target. In this file g is a game of a design d, zones
-- and targets are sets of it, of which the first so many count, t are diagrams to which those of the game have grown,
-- and v and w are values of levels.
use Rattle.std.specs.Prelude.{◌≡◌, ℕ, ◌<◌, true, List, Some, length, slice_get}
use Rattle.std.specs.List.{range_with_len}
use Rattle.tm_dd.specs.declared.node.NodeId.{NodeId}
use Rattle.tm_dd.specs.declared.node.TheConstants.{FALSE}
use Rattle.tm_dd.specs.Table.{Knows, Table, means}
use Rattle.tm_flat.specs.Inputs.{room}
use Rattle.tm_game.specs.Game.{GameData, in_set}
use Rattle.tm_game.specs.Moves.{HasTask, IsGoodMove, move_at}
use Rattle.tm_game.specs.declared.moves.MoveShape.{MoveShape}
use Rattle.tm_game_bits.specs.AssignedStates.{state_of}
use Rattle.tm_game_bits.specs.Diagrams.{IsSetOf}
use Rattle.tm_game_bits.specs.Functions.{Assignment}
use Rattle.tm_sem.specs.State.{StateData}
use Rattle.tm_sem.specs.declared.state.Move.{Move}
use Rattle.tm_strat.specs.Choice.{HasPair, id_in}
use Rattle.tm_syntax.specs.Design.{DesignTree}

-- ---- moves
-- at a state of one of the zones a move is allowed, and for no choices errs or leaves the zone's target, which is not
-- the empty set
pub record IsMoveFrom (d : DesignTree) (zone target : ℕ → StateData → Type 0) (targets : List NodeId) (count : ℕ)
    (s : StateData) (move : Move) : Type 0 where
  pub at : ℕ
  pub below : at < count
  pub here : zone at s
  pub some : ¬ (id_in targets at ≡ FALSE)
  pub good : IsGoodMove d (target at) s move

-- at a state of one of the zones a move is good for the zone's target, where zones and targets are ids
abbrev pub IsZoneMove : DesignTree → GameData → List NodeId → List NodeId → ℕ → StateData → Move → Type 0
IsZoneMove d g zones targets count =
    IsMoveFrom d (λ k. in_set d g (id_in zones k)) (λ k. in_set d g (id_in targets k)) targets count

-- a move of a shape is so with the arguments that values of levels give
abbrev pub IsZonePair : DesignTree → GameData → List NodeId → List NodeId → ℕ → MoveShape → Assignment → Type 0
IsZonePair d g zones targets count shape v =
    HasTask g.flat shape
    × IsZoneMove d g zones targets count (state_of d g.order v) (move_at d g.order shape v)

-- an id is true exactly there
abbrev pub AreZonePairs : DesignTree → GameData → List NodeId → List NodeId → ℕ → Table → MoveShape → NodeId → Type 0
AreZonePairs d g zones targets count t shape id = IsSetOf t (IsZonePair d g zones targets count shape) id

-- at a state of one zone a move of a shape is good for its target
abbrev pub IsPairFrom : DesignTree → GameData → NodeId → NodeId → MoveShape → Assignment → Type 0
IsPairFrom d g states target shape v =
    HasTask g.flat shape × (means g.diagrams.table states v ≡ true) × ¬ (target ≡ FALSE)
    × IsGoodMove d (in_set d g target) (state_of d g.order v) (move_at d g.order shape v)

-- ids are the pairs of shapes, one for each
pub record AreShapePairs (d : DesignTree) (g : GameData) (zones targets : List NodeId) (t : Table)
    (shapes : List MoveShape) (pairs : List NodeId) (count : ℕ) : Type 0 where
  pub count_is : length pairs ≡ count
  pub each : (k : ℕ) (shape : MoveShape) → k < count → slice_get shapes k ≡ Some shape →
      AreZonePairs d g zones targets (length targets) t shape (id_in pairs k)

-- an id is true exactly where some arguments make a pair of some shape
pub record IsCareOf (g : GameData) (t : Table) (pairs : List NodeId) (id : NodeId) : Type 0 where
  pub known : Knows t id
  pub only : (v : Assignment) → means t id v ≡ true → HasPair (length g.order) t pairs v
  pub all : (v : Assignment) → HasPair (length g.order) t pairs v → means t id v ≡ true

-- the levels of the bits of arguments
abbrev pub AreArgumentLevels : GameData → List ℕ → Type 0
AreArgumentLevels g levels = levels ≡ range_with_len (length g.order) room
