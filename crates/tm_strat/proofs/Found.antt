-- The good moves of a goal, as they were found.
use Rattle.std.proofs.Common.{◌≡◌, ℕ, true, List, length, sym, subst}
use Rattle.tm_dd.specs.declared.node.NodeId.{NodeId}
use Rattle.tm_game.specs.Game.{GameData, Grows, IsSet, IsStates}
use Rattle.tm_game.specs.declared.moves.MoveShape.{MoveShape}
use Rattle.tm_sem.specs.Step.{is_driver_turn}
use Rattle.tm_solve.specs.declared.iterates.RankSet.{RankSet}
use Rattle.tm_solve_exact.specs.Exact.{IsExactOf}
use Rattle.tm_solve_exact.proofs.Growing.{states_set}
use Rattle.tm_strat.proofs.Goods.{pairs_now}
use Rattle.tm_strat.proofs.ZoneSets.{zoned_kept}
use Rattle.tm_strat.specs.Goods.{AreZonesFor, IsGoodFor}
use Rattle.tm_strat.specs.Zoned.{AreShapePairs, IsCareOf}
use Rattle.tm_strat.specs.declared.good.GoodMoves.{GoodMoves}
use Rattle.tm_syntax.specs.Design.{DesignTree}

pub turn_set : (d : DesignTree) (g : GameData) → IsExactOf d g → (turn : NodeId) → turn ≡ g.turn →
    IsStates d g.order g.diagrams.table (λ s. is_driver_turn d s ≡ true) turn → IsSet g g.turn
turn_set d g is turn same states =
    subst (IsSet g) same (states_set d g is (λ s. is_driver_turn d s ≡ true) turn states).set

pub good_found : (d : DesignTree) (g h : GameData) → IsExactOf d g → Grows g h → (region : NodeId)
    (ranks : List RankSet) (j : ℕ) (zones targets zones_read targets_read : List NodeId) → zones_read ≡ zones →
    targets_read ≡ targets → AreZonesFor g region ranks j zones targets → (shapes : List MoveShape)
    (good : GoodMoves) →
    (IsExactOf d g → AreShapePairs d g zones_read targets_read h.diagrams.table shapes good.pairs.items
    (length shapes)) →
    (IsExactOf d g → IsCareOf g h.diagrams.table good.pairs.items good.care) →
    IsGoodFor d h region ranks j shapes good
good_found d g h is grows region ranks j zones targets zones_read targets_read zones_same targets_same zoned shapes
    good pairs care = record {
      zones = zones;
      targets = targets;
      zoned = zoned_kept d g h is grows region ranks j zones targets zoned;
      pairs = pairs_now d g h grows zones targets zoned.zone_sets zoned.target_sets shapes good.pairs.items
          (length shapes)
          (subst (λ (l : List NodeId). AreShapePairs d g l targets h.diagrams.table shapes good.pairs.items
          (length shapes)) zones_same
          (subst (λ (l : List NodeId). AreShapePairs d g zones_read l h.diagrams.table shapes good.pairs.items
          (length shapes)) targets_same (pairs is)));
      care = record {
        known = (care is).known;
        only = λ v held.
            subst (λ (o : List ℕ). Rattle.tm_strat.specs.Choice.HasPair (length o) h.diagrams.table good.pairs.items v)
            (sym grows.order) ((care is).only v held);
        all = λ v pair.
            (care is).all v
            (subst (λ (o : List ℕ). Rattle.tm_strat.specs.Choice.HasPair (length o) h.diagrams.table good.pairs.items v)
            grows.order pair);
      };
    }
