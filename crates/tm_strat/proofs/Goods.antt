-- What is left of a goal's good moves where the game has grown, and what they are over it.
use Rattle.std.proofs.Common.{◌≡◌, inl, inr, ℕ, ◌<◌, true, List, length, sym, ap, ◌∙◌, subst, arith}
use Rattle.std.proofs.lemmas.Bool.{cases_lt, true≢false}
use Rattle.std.proofs.lemmas.List.{get_or_past}
use Rattle.std.proofs.lemmas.Option.{slice_get-get_or}
use Rattle.std.specs.Prelude.{slice_index_or}
use Rattle.tm_dd.specs.declared.node.NodeId.{NodeId}
use Rattle.tm_dd.specs.declared.node.TheConstants.{FALSE}
use Rattle.tm_dd.specs.Table.{Table, means}
use Rattle.tm_dd.proofs.CallerLaws.{means-FALSE}
use Rattle.tm_game.specs.Game.{GameData, Grows, in_set}
use Rattle.tm_game.specs.Moves.{HasTask, move_at}
use Rattle.tm_game.specs.declared.moves.MoveShape.{MoveShape}
use Rattle.tm_game.specs.declared.moves.MoveShape.TheVariants.{Idle}
use Rattle.tm_game_bits.specs.AssignedStates.{state_of}
use Rattle.tm_game_bits.specs.Coding.{Coding}
use Rattle.tm_game_bits.specs.Diagrams.{IsSetOf}
use Rattle.tm_game_bits.specs.Functions.{Assignment}
use Rattle.tm_game_bits.specs.States.{AreOneState}
use Rattle.tm_game_bits.proofs.Extended.{IsSetOf-Extends, Knows-Extends, means-Extends}
use Rattle.tm_sem.specs.Step.{IsState}
use Rattle.tm_solve_exact.specs.Exact.{IsExactOf, IsStateSet, coding, valid_set}
use Rattle.tm_solve_exact.proofs.Growing.{coding_same, coding_told, valid_told}
use Rattle.tm_solve_exact.proofs.Staying.{iff_same, valid_reads}
use Rattle.tm_strat.proofs.Gathering.{set_in}
use Rattle.tm_strat.proofs.ZonePairs.{in_set_kept, pairs_read}
use Rattle.tm_strat.specs.Choice.{HasPair, IsPairs, id_in}
use Rattle.tm_strat.specs.Targets.{AreSets}
use Rattle.tm_strat.specs.Zoned.{AreShapePairs, AreZonePairs, IsCareOf, IsMoveFrom, IsZonePair}
use Rattle.tm_syntax.specs.Design.{DesignTree}

-- ---- pairs
-- a pair from a zone, where the zones and targets are sets of the game
pub zone_pair_kept : (d : DesignTree) (g h : GameData) → Grows g h → (zones targets : List NodeId) →
    AreSets g zones → AreSets g targets → (count : ℕ) (shape : MoveShape) →
    IsZonePair d h zones targets count shape ≡ IsZonePair d g zones targets count shape
zone_pair_kept d g h grows zones targets zone_sets target_sets count shape =
    λ i v.
    HasTask (grows.flat i) shape
    × IsMoveFrom d (λ k. zone_same k i) (λ k. target_same k i) targets count (state_of d (grows.order i) v)
    (move_at d (grows.order i) shape v)
  where
    zone_same : (k : ℕ) → in_set d h (id_in zones k) ≡ in_set d g (id_in zones k)
    zone_same k = in_set_kept d g h grows (id_in zones k) (set_in g zones zone_sets k).known

    target_same : (k : ℕ) → in_set d h (id_in targets k) ≡ in_set d g (id_in targets k)
    target_same k = in_set_kept d g h grows (id_in targets k) (set_in g targets target_sets k).known

module _ (d : DesignTree) (g h : GameData) (grows : Grows g h) (zones targets : List NodeId)
    (zone_sets : AreSets g zones) (target_sets : AreSets g targets) (shapes : List MoveShape)
    (pairs : List NodeId) where
  -- what is said of the game before it grew is said of it now
  pub pairs_now : (count : ℕ) → AreShapePairs d g zones targets h.diagrams.table shapes pairs count →
      AreShapePairs d h zones targets h.diagrams.table shapes pairs count
  pairs_now count are = record {
    count_is = are.count_is;
    each = λ k shape below there.
        subst (λ (P : Assignment → Type 0). IsSetOf h.diagrams.table P (id_in pairs k))
        (sym (zone_pair_kept d g h grows zones targets zone_sets target_sets (length targets) shape))
        (are.each k shape below there);
  }

  pub shape_pairs_kept : (count : ℕ) → AreShapePairs d g zones targets g.diagrams.table shapes pairs count →
      AreShapePairs d h zones targets h.diagrams.table shapes pairs count
  shape_pairs_kept count are =
      pairs_now count (record {
        count_is = are.count_is;
        each = λ k shape below there.
            IsSetOf-Extends g.diagrams.table h.diagrams.table grows.diagrams
            (IsZonePair d g zones targets (length targets) shape) (id_in pairs k) (are.each k shape below there);
      })

-- ---- pairs are known, and read a state and arguments
pub no_pairs : (g : GameData) → IsPairs g FALSE
no_pairs g = record {
  known = omega arith;
  reads = λ v w one. means-FALSE g.diagrams.table v ∙ sym (means-FALSE g.diagrams.table w);
  valid = λ v held. absurd (true≢false (sym held ∙ means-FALSE g.diagrams.table v));
}

-- the state that values of levels tell
pub state_same : (d : DesignTree) (g : GameData) → IsExactOf d g → (v : Assignment) →
    (coding g).state_of v ≡ state_of d g.order v
state_same d g is v = ap (λ (c : Coding). c.state_of v) (coding_same d g is)

module _ (d : DesignTree) (g : GameData) (is : IsExactOf d g) (zones targets : List NodeId)
    (shapes : List MoveShape) (pairs : List NodeId)
    (are : AreShapePairs d g zones targets g.diagrams.table shapes pairs (length shapes)) where
  pub one_pairs : (k : ℕ) → k < length shapes →
      AreZonePairs d g zones targets (length targets) g.diagrams.table (slice_index_or shapes k Idle) (id_in pairs k)
  one_pairs k below = are.each k (slice_index_or shapes k Idle) below (slice_get-get_or shapes k Idle below)

  pub are_pairs : (k : ℕ) → IsPairs g (id_in pairs k)
  are_pairs k =
      elim (cases_lt k (length shapes)) as (λ _. IsPairs g (id_in pairs k)) [
        | inl below ↦
            let one = one_pairs k below in
            record {
              known = one.known;
              reads = pairs_read d g is zones targets (length targets) g.diagrams.table (slice_index_or shapes k Idle)
                  (id_in pairs k) one;
              valid = λ v held.
                  (valid_told d g is v).1
                  (subst (IsState d) (sym (state_same d g is v)) (one.only v held).1.good.state);
            }
        | inr past ↦
            let count = are.count_is in
            subst (IsPairs g) (sym (get_or_past pairs k FALSE (omega (arith, count, past)))) (no_pairs g)
      ]

  -- ---- the states at which some move is good
  module _ (care : NodeId) (care_is : IsCareOf g g.diagrams.table pairs care) where
    moved : (v w : Assignment) → AreOneState (length g.order) v w → means g.diagrams.table care v ≡ true →
        means g.diagrams.table care w ≡ true
    moved v w one held =
        let pair = care_is.only v held in
        care_is.all w (record {
          shape = pair.shape;
          values = pair.values;
          below = pair.below;
          same = λ k below. pair.same k below ∙ one k below;
          good = pair.good;
        })

    pub care_set : IsStateSet g care
    care_set = record {
      set = record {
        known = care_is.known;
        reads = λ v w one.
            iff_same (means g.diagrams.table care v) (means g.diagrams.table care w) (moved v w one)
            (moved w v (λ k below. sym (one k below)));
      };
      valid = λ v held.
          let pair = care_is.only v held in
          valid_reads d (coding g) (coding_told d g is) (valid_set g) (valid_told d g is) v pair.values
          (λ k below. sym (pair.same k below))
          ∙ (are_pairs pair.shape).valid pair.values pair.good;
    }

-- ---- growth
-- a pair stays one where its shape's pairs stay
pair_kept : (count : ℕ) (t u : Table) (pairs : List NodeId) →
    ((k : ℕ) → means u (id_in pairs k) ≡ means t (id_in pairs k)) → (v : Assignment) → HasPair count t pairs v →
    HasPair count u pairs v
pair_kept count t u pairs same v pair = record {
  shape = pair.shape;
  values = pair.values;
  below = pair.below;
  same = pair.same;
  good = ap (λ f. f pair.values) (same pair.shape) ∙ pair.good;
}

pub care_kept : (g h : GameData) → Grows g h → (pairs : List NodeId) → ((k : ℕ) → IsPairs g (id_in pairs k)) →
    (care : NodeId) → IsCareOf g g.diagrams.table pairs care → IsCareOf h h.diagrams.table pairs care
care_kept g h grows pairs are care is = record {
  known = Knows-Extends g.diagrams.table h.diagrams.table grows.diagrams care is.known;
  only = λ v held.
      subst (λ (o : List ℕ). HasPair (length o) h.diagrams.table pairs v) (sym grows.order)
      (pair_kept (length g.order) g.diagrams.table h.diagrams.table pairs same v
      (is.only v (sym (ap (λ f. f v) care_same) ∙ held)));
  all = λ v pair.
      ap (λ f. f v) care_same
      ∙ is.all v
      (pair_kept (length g.order) h.diagrams.table g.diagrams.table pairs (λ k. sym (same k)) v
      (subst (λ (o : List ℕ). HasPair (length o) h.diagrams.table pairs v) grows.order pair));
}
  where
    same : (k : ℕ) → means h.diagrams.table (id_in pairs k) ≡ means g.diagrams.table (id_in pairs k)
    same k = means-Extends g.diagrams.table h.diagrams.table grows.diagrams (id_in pairs k) (are k).known

    care_same : means h.diagrams.table care ≡ means g.diagrams.table care
    care_same = means-Extends g.diagrams.table h.diagrams.table grows.diagrams care is.known
