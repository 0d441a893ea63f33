-- Pairs of one zone more, and of one shape more, while the game grows: from g, at the start, over m, at a turn of the
-- loop, to h, behind it.
use Rattle.std.proofs.Common.{◌≡◌, ℕ, ◌+◌, ◌<◌, ◌||◌, List, [], ◌∷◌, ◌++◌, Some, length, get_or, slice_get}
use Rattle.std.proofs.Common.{subst, arith}
use Rattle.std.proofs.lemmas.Option.{slice_get-get_or}
use Rattle.tm_dd.specs.declared.node.NodeId.{NodeId}
use Rattle.tm_dd.specs.Table.{Knows, means}
use Rattle.tm_ddops.specs.Manager.{IsFunction}
use Rattle.tm_ddops.specs.Quantified.{IsExists}
use Rattle.tm_game.specs.Game.{GameData, Grows}
use Rattle.tm_game.proofs.Growing.{grows_then}
use Rattle.tm_game.specs.declared.moves.MoveShape.{MoveShape}
use Rattle.tm_game.specs.declared.moves.MoveShape.TheVariants.{Idle}
use Rattle.tm_game_bits.specs.Diagrams.{IsSetOf}
use Rattle.tm_game_bits.specs.Functions.{Assignment}
use Rattle.tm_game_bits.proofs.Extended.{IsSetOf-Extends, Knows-Extends, means-Extends}
use Rattle.tm_solve_exact.specs.Exact.{IsExactOf}
use Rattle.tm_solve_exact.proofs.Growing.{kept_exact}
use Rattle.tm_strat.proofs.Gathering.{care_more, set_in, shapes_more}
use Rattle.tm_strat.proofs.Goods.{zone_pair_kept}
use Rattle.tm_strat.proofs.ZonePairs.{pair_from_kept, pairs_read, zones_more}
use Rattle.tm_strat.specs.Choice.{id_in}
use Rattle.tm_strat.specs.Targets.{AreSets}
use Rattle.tm_strat.specs.Zoned.{AreArgumentLevels, AreShapePairs, AreZonePairs, IsCareOf, IsPairFrom, IsZonePair}
use Rattle.tm_syntax.specs.Design.{DesignTree}

module _ (d : DesignTree) (g m : GameData) (is : IsExactOf d g) (to_m : Grows g m) (zones targets : List NodeId)
    (zone_sets : AreSets g zones) (target_sets : AreSets g targets) where
  -- ---- one zone more
  pub shape_step : (e h : GameData) → Grows m e → Grows e h → (n : ℕ) (shape : MoveShape)
      (good here id states target : NodeId) → states ≡ id_in zones n → target ≡ id_in targets n →
      AreZonePairs d g zones targets n m.diagrams.table shape good →
      (IsExactOf d m → IsSetOf e.diagrams.table (IsPairFrom d m states target shape) here) →
      (Knows e.diagrams.table good → Knows e.diagrams.table here →
      IsFunction h.diagrams.table id (λ v. means h.diagrams.table good v || means h.diagrams.table here v)) →
      AreZonePairs d g zones targets (n + 1) h.diagrams.table shape id
  shape_step e h to_e to_h n shape good here id states target states_are target_is before last answer =
      zones_more d g is zones targets h.diagrams.table e.diagrams.table n shape good here id
      (set_in g zones zone_sets n) before_e last_g (answer before_e.known last_g.known)
      (λ i known. means-Extends e.diagrams.table h.diagrams.table to_h.diagrams i known)
    where
      before_e : AreZonePairs d g zones targets n e.diagrams.table shape good
      before_e =
          IsSetOf-Extends m.diagrams.table e.diagrams.table to_e.diagrams (IsZonePair d g zones targets n shape) good
          before

      last_g : IsSetOf e.diagrams.table (IsPairFrom d g (id_in zones n) (id_in targets n) shape) here
      last_g =
          subst (λ (P : Assignment → Type 0). IsSetOf e.diagrams.table P here)
          (pair_from_kept d g m to_m (id_in zones n) (id_in targets n) (set_in g zones zone_sets n).known
          (set_in g targets target_sets n).known shape)
          (subst (λ (i : NodeId). IsSetOf e.diagrams.table (IsPairFrom d m (id_in zones n) i shape) here) target_is
          (subst (λ (i : NodeId). IsSetOf e.diagrams.table (IsPairFrom d m i target shape) here) states_are
          (last (kept_exact d g is m to_m))))

  -- ---- one shape more
  module _ (e s h : GameData) (to_e : Grows m e) (to_s : Grows e s) (to_h : Grows s h) (shapes : List MoveShape)
      (k : ℕ) (shape : MoveShape) (there : slice_get shapes k ≡ Some shape) (below : k < length shapes)
      (pairs more : List NodeId) (good : NodeId)
      (before : AreShapePairs d g zones targets m.diagrams.table shapes pairs k)
      (found : IsExactOf d m → AreZonePairs d m zones targets (length targets) e.diagrams.table shape good)
      (items : more ≡ pairs ++ good ∷ []) where
    good_e : AreZonePairs d g zones targets (length targets) e.diagrams.table shape good
    good_e =
        subst (λ (P : Assignment → Type 0). IsSetOf e.diagrams.table P good)
        (zone_pair_kept d g m to_m zones targets zone_sets target_sets (length targets) shape)
        (found (kept_exact d g is m to_m))

    good_s : AreZonePairs d g zones targets (length targets) s.diagrams.table shape good
    good_s =
        IsSetOf-Extends e.diagrams.table s.diagrams.table to_s.diagrams
        (IsZonePair d g zones targets (length targets) shape) good good_e

    good_h : AreZonePairs d g zones targets (length targets) h.diagrams.table shape good
    good_h =
        IsSetOf-Extends s.diagrams.table h.diagrams.table to_h.diagrams
        (IsZonePair d g zones targets (length targets) shape) good good_s

    to_s_m : Grows m s
    to_s_m = grows_then m e s to_e to_s

    pub pairs_step : AreShapePairs d g zones targets h.diagrams.table shapes more (k + 1)
    pairs_step =
        shapes_more d g zones targets shapes m h (grows_then m s h to_s_m to_h) k shape good pairs more there before
        good_h items

    pub care_step : (levels : List ℕ) → AreArgumentLevels g levels → (care states id : NodeId) →
        IsCareOf g m.diagrams.table pairs care →
        (Knows e.diagrams.table good → IsExists s.diagrams.table levels good states) →
        (Knows s.diagrams.table care → Knows s.diagrams.table states →
        IsFunction h.diagrams.table id (λ v. means h.diagrams.table care v || means h.diagrams.table states v)) →
        IsCareOf g h.diagrams.table more id
    care_step levels are care states id care_is exists answer =
        care_more g m s h to_s_m to_h levels are pairs more care good states id care_is
        (λ j low.
        (before.each j (get_or shapes j Idle) (omega (arith, low, before.count_is))
        (slice_get-get_or shapes j Idle (omega (arith, low, below, before.count_is)))).known)
        good_s.known
        (pairs_read d g is zones targets (length targets) s.diagrams.table shape good good_s)
        (exists good_e.known)
        (answer (Knows-Extends m.diagrams.table s.diagrams.table to_s_m.diagrams care care_is.known)
        (exists good_e.known).known)
        items
