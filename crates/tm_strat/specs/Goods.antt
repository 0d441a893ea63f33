-- Good moves of goals over a game, as they were found. In this file g is a game of a design d, region and ranks are ids
-- of sets of it, it is a solution, and shapes are those of all moves.
use Rattle.std.specs.Option.{option_map_or}
use Rattle.std.specs.Prelude.{◌≡◌, ℕ, suc, List, [], Some, length, slice_get}
use Rattle.tm_dd.specs.declared.node.NodeId.{NodeId}
use Rattle.tm_game.specs.Game.{GameData, IsSet}
use Rattle.tm_game.specs.declared.moves.MoveShape.{MoveShape}
use Rattle.tm_solve.specs.declared.iterates.Iterates.{Iterates}
use Rattle.tm_solve.specs.declared.iterates.RankSet.{RankSet}
use Rattle.tm_solve.specs.declared.iterates.Ranking.{Ranking}
use Rattle.tm_strat.specs.declared.good.GoodMoves.{GoodMoves}
use Rattle.tm_strat.specs.Targets.{AreSets, HasSets}
use Rattle.tm_strat.specs.Zoned.{AreShapePairs, IsCareOf}
use Rattle.tm_strat.specs.Zones.{AreTargets, AreZones, zoning_of}
use Rattle.tm_syntax.specs.Design.{DesignTree}

-- the zones and targets of a goal, as sets of a game
pub record AreZonesFor (g : GameData) (region : NodeId) (ranks : List RankSet) (goal : ℕ)
    (zones targets : List NodeId) : Type 0 where
  pub region_set : IsSet g region
  pub rank_sets : HasSets g ranks
  pub turn_set : IsSet g g.turn
  pub zone_sets : AreSets g zones
  pub target_sets : AreSets g targets
  pub zones_are : AreZones g.diagrams.table (zoning_of g region ranks goal) (suc (length ranks)) zones
  pub targets_are : AreTargets g.diagrams.table (zoning_of g region ranks goal) (suc (length ranks)) targets

-- pairs of each shape, and the states at which some move is good
pub record IsGoodFor (d : DesignTree) (g : GameData) (region : NodeId) (ranks : List RankSet) (goal : ℕ)
    (shapes : List MoveShape) (good : GoodMoves) : Type 0 where
  pub zones : List NodeId
  pub targets : List NodeId
  pub zoned : AreZonesFor g region ranks goal zones targets
  pub pairs : AreShapePairs d g zones targets g.diagrams.table shapes good.pairs.items (length shapes)
  pub care : IsCareOf g g.diagrams.table good.pairs.items good.care

-- the ranked sets of a goal
abbrev pub ranks_in : Iterates → ℕ → List RankSet
ranks_in it goal = option_map_or (λ (r : Ranking). r.sets.items) (slice_get it.ranks.items goal) []

-- good moves are those of each goal
pub record AreGoodMoves (d : DesignTree) (g : GameData) (it : Iterates) (shapes : List MoveShape)
    (goods : List GoodMoves) : Type 0 where
  pub each : (j : ℕ) (good : GoodMoves) → slice_get goods j ≡ Some good →
      IsGoodFor d g it.region (ranks_in it j) j shapes good
