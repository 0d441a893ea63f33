-- The states that candidate moves serve. In this file g is a game of a design d, shapes are those of all moves, and
-- blocks are those of the candidates.
use Rattle.std.specs.Prelude.{◌≡◌, ◌⊎◌, ℕ, ◌<◌, All, List, Some, length, map, slice_get}
use Rattle.tm_check.specs.Replies.{IsMove, move_of, shape_of}
use Rattle.tm_cir.specs.Tree.{BlockTree}
use Rattle.tm_dd.specs.declared.node.NodeId.{NodeId}
use Rattle.tm_dd.specs.declared.node.TheConstants.{FALSE}
use Rattle.tm_dd.specs.Table.{Knows}
use Rattle.tm_game.specs.Game.{GameData, in_set}
use Rattle.tm_game.specs.Moves.{HasTask}
use Rattle.tm_game.specs.declared.moves.MoveShape.{MoveShape}
use Rattle.tm_sem.specs.State.{StateData}
use Rattle.tm_sem.specs.Step.{IsState}
use Rattle.tm_solve_exact.specs.Exact.{IsExactOf, IsStateSet}
use Rattle.tm_solve.specs.declared.iterates.Iterates.{Iterates}
use Rattle.tm_solve.specs.declared.iterates.RankSet.{RankSet}
use Rattle.tm_strat.specs.Choice.{id_in}
use Rattle.tm_strat.specs.Goods.{AreZonesFor, ranks_in}
use Rattle.tm_strat.specs.Targets.{AreSets}
use Rattle.tm_strat.specs.Trees.{candidate_tree, shape_in}
use Rattle.tm_strat.specs.Zoned.{AreShapePairs, AreZonePairs, IsCareOf, IsZoneMove}
use Rattle.tm_strat.specs.declared.candidates.Candidate.{Candidate}
use Rattle.tm_strat.specs.declared.choosing.GoalMoves.{GoalMoves}
use Rattle.tm_strat.specs.declared.numbers.Counts.{Counts}
use Rattle.tm_strat.specs.declared.reading.Given.{Given}
use Rattle.tm_syntax.specs.Design.{DesignTree}

-- ---- arguments
-- the move of a block is of the shape of a number, and its arguments are these
pub record IsGivenMove (d : DesignTree) (g : GameData) (shapes : List MoveShape) (b : BlockTree) (x : Given) :
    Type 0 where
  pub shape : shape_in shapes x.shape ≡ shape_of b
  pub below : x.shape < length shapes
  pub task : HasTask g.flat (shape_of b)
  pub move : IsMove d g.order g.diagrams.table (move_of 0 b) (shape_of b) x.fits x.parts.items

-- arguments are those of a block's move, or fit nowhere
pub record IsGivenFor (d : DesignTree) (g : GameData) (shapes : List MoveShape) (b : BlockTree) (x : Given) :
    Type 0 where
  pub fits : Knows g.diagrams.table x.fits
  pub parts : All (λ p. Knows g.diagrams.table p.1) x.parts.items
  pub move : (x.fits ≡ FALSE) ⊎ IsGivenMove d g shapes b x

-- those of the first so many blocks
pub record AreGivenFor (d : DesignTree) (g : GameData) (shapes : List MoveShape) (blocks : List BlockTree)
    (given : List Given) (count : ℕ) : Type 0 where
  pub count_is : length given ≡ count
  pub each : (k : ℕ) (b : BlockTree) (x : Given) → slice_get blocks k ≡ Some b → slice_get given k ≡ Some x →
      IsGivenFor d g shapes b x

-- ---- states
-- an id is a set of states at which the move of a block is good
pub record IsServed (d : DesignTree) (g : GameData) (zones targets : List NodeId) (b : BlockTree) (id : NodeId) :
    Type 0 where
  pub set : IsStateSet g id
  pub good : (s : StateData) → IsState d s → in_set d g id s →
      IsZoneMove d g zones targets (length targets) s (move_of 0 b s)

-- ids are those of the first so many blocks
pub record AreServed (d : DesignTree) (g : GameData) (zones targets : List NodeId) (blocks : List BlockTree)
    (ids : List NodeId) (count : ℕ) : Type 0 where
  pub count_is : length ids ≡ count
  pub each : (k : ℕ) (b : BlockTree) → k < count → slice_get blocks k ≡ Some b →
      IsServed d g zones targets b (id_in ids k)

-- what is known of pairs and arguments from which the states of one block are found
pub record ServesOne (d : DesignTree) (g : GameData) (zones targets : List NodeId) (shapes : List MoveShape)
    (b : BlockTree) (pairs : NodeId) (x : Given) : Type 0 where
  pub of : IsExactOf d g
  pub zone_sets : AreSets g zones
  pub target_sets : AreSets g targets
  pub are : x.shape < length shapes → AreZonePairs d g zones targets (length targets) g.diagrams.table
      (shape_in shapes x.shape) pairs
  pub known : Knows g.diagrams.table pairs
  pub given : IsGivenFor d g shapes b x

-- what is known of pairs and arguments from which the states of several blocks are found
pub record ServesFrom (d : DesignTree) (g : GameData) (zones targets : List NodeId) (shapes : List MoveShape)
    (blocks : List BlockTree) (pairs : List NodeId) (given : List Given) : Type 0 where
  pub of : IsExactOf d g
  pub zone_sets : AreSets g zones
  pub target_sets : AreSets g targets
  pub are : AreShapePairs d g zones targets g.diagrams.table shapes pairs (length shapes)
  pub given_are : AreGivenFor d g shapes blocks given (length blocks)

-- ---- goals
-- moves of each shape and candidates that are good for the zones and targets of a goal
pub record IsMadeFor (d : DesignTree) (g : GameData) (region : NodeId) (ranks : List RankSet) (goal : ℕ)
    (shapes : List MoveShape) (blocks : List BlockTree) (made : GoalMoves) : Type 0 where
  pub zones : List NodeId
  pub targets : List NodeId
  pub zoned : AreZonesFor g region ranks goal zones targets
  pub pairs : AreShapePairs d g zones targets g.diagrams.table shapes made.pairs.items (length shapes)
  pub care : IsCareOf g g.diagrams.table made.pairs.items made.care
  pub served : AreServed d g zones targets blocks made.candidates.items (length blocks)

-- those of each goal of a solution
pub record AreMadeFor (d : DesignTree) (g : GameData) (it : Iterates) (shapes : List MoveShape)
    (blocks : List BlockTree) (made : List GoalMoves) : Type 0 where
  pub each : (j : ℕ) (m : GoalMoves) → slice_get made j ≡ Some m →
      IsMadeFor d g it.region (ranks_in it j) j shapes blocks m

-- the blocks of candidates
abbrev pub candidate_trees : DesignTree → Counts → List MoveShape → List Candidate → List BlockTree
candidate_trees d c shapes candidates = map (candidate_tree d c shapes) candidates
