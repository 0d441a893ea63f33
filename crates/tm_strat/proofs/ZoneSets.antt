-- Zones and targets are sets of a game, and stay what they are where it grows.
use Rattle.std.proofs.Common.{◌≡◌, inl, inr, ℕ, zero, suc, ◌<◌, true, ◌&&◌, ◌||◌, not, List, []}
use Rattle.std.proofs.Common.{◌∷◌, Some, length, get_or, map, slice_get, take, refl, sym, ap, ◌∙◌, subst, arith}
use Rattle.std.proofs.lemmas.Bool.{cases_lt}
use Rattle.std.proofs.lemmas.List.{get_or-map, get_or_past, length-map}
use Rattle.std.proofs.lemmas.Option.{get_or_from_slice_get, slice_get_within}
use Rattle.std.specs.List.{list_any}
use Rattle.tm_dd.specs.declared.node.NodeId.{NodeId}
use Rattle.tm_dd.specs.declared.node.TheConstants.{FALSE}
use Rattle.tm_dd.specs.Table.{means}
use Rattle.tm_ddops.specs.Manager.{IsFunction}
use Rattle.tm_game.specs.Game.{GameData, Grows, IsSet}
use Rattle.tm_game.proofs.Growing.{grows_then, set_kept}
use Rattle.tm_game.proofs.MadeSets.{false_set}
use Rattle.tm_game_bits.proofs.Extended.{means-Extends}
use Rattle.tm_game_bits.specs.Functions.{Assignment, Function}
use Rattle.tm_game_bits.specs.States.{AreOneState, ReadsState}
use Rattle.tm_sem.specs.Fairness.{IsFair}
use Rattle.tm_sem.specs.Play.{goal_holds}
use Rattle.tm_solve.specs.declared.iterates.RankSet.{RankSet}
use Rattle.tm_solve_exact.specs.Exact.{IsExactOf}
use Rattle.tm_solve_exact.proofs.Growing.{kept_exact, states_set}
use Rattle.tm_strat.proofs.Zoning.{targets_kept, zones_kept}
use Rattle.tm_strat.specs.Choice.{id_in}
use Rattle.tm_strat.specs.Goods.{AreZonesFor}
use Rattle.tm_strat.specs.Targets.{AreSets, HasSets}
use Rattle.tm_strat.specs.Zones.{AreTargets, AreZones, Rank, Tells, Zoning, before, nothing, rank_at, target, zone}
use Rattle.tm_strat.specs.Zones.{zoning_of}
use Rattle.tm_syntax.specs.Design.{DesignTree}

-- ---- what zones read
-- all parts of a zoning read so many levels
record ReadsZoning (count : ℕ) (z : Zoning) : Type 0 where
  region : ReadsState count z.region
  turn : ReadsState count z.turn
  goal : ReadsState count z.goal
  set : (k : ℕ) → ReadsState count (rank_at z k).set
  fair : (k : ℕ) → ReadsState count (rank_at z k).fair

module _ (count : ℕ) (z : Zoning) (reads : ReadsZoning count z) where
  any_reads : (rs : List Rank) → ((k : ℕ) → ReadsState count
      (get_or rs k (record { set = nothing; fair = nothing })).set) → (k : ℕ) (v w : Assignment) →
      AreOneState count v w →
      list_any (λ (r : Rank). r.set v) (take k rs) ≡ list_any (λ (r : Rank). r.set w) (take k rs)
  any_reads [] each zero v w one = refl
  any_reads [] each (suc k) v w one = refl
  any_reads (r ∷ rs) each zero v w one = refl
  any_reads (r ∷ rs) each (suc k) v w one =
      let first = each 0 v w one in
      let others = any_reads rs (λ j. each (suc j)) k v w one in
      λ i. first i || others i

  before_reads : (k : ℕ) → ReadsState count (before z k)
  before_reads k v w one = any_reads z.ranks reads.set k v w one

  here_reads : (v w : Assignment) → AreOneState count v w → (z.region v && z.turn v) ≡ (z.region w && z.turn w)
  here_reads v w one = λ i. reads.region v w one i && reads.turn v w one i

  added_reads : (k : ℕ) (v w : Assignment) → AreOneState count v w →
      ((((z.region v && z.turn v) && not (z.goal v)) && (rank_at z k).set v) && not (before z k v))
      ≡ ((((z.region w && z.turn w) && not (z.goal w)) && (rank_at z k).set w) && not (before z k w))
  added_reads k v w one =
      λ i.
      ((here_reads v w one i && not (reads.goal v w one i)) && reads.set k v w one i)
      && not (before_reads k v w one i)

  zone_reads : (k : ℕ) → ReadsState count (zone z k)
  zone_reads zero v w one = λ i. here_reads v w one i && reads.goal v w one i
  zone_reads (suc k) v w one =
      λ i.
      (added_reads k v w one i && not (reads.fair k v w one i))
      || (added_reads (suc k) v w one i && reads.fair (suc k) v w one i)

  target_reads : (k : ℕ) → ReadsState count (target z k)
  target_reads zero = reads.region
  target_reads (suc k) = before_reads (suc k)

pub function_set : (g : GameData) (id : NodeId) (f : Function) → ReadsState (length g.order) f →
    IsFunction g.diagrams.table id f → IsSet g id
function_set g id f reads is = record {
  known = is.known;
  reads = λ v w one. is.meaning v ∙ reads v w one ∙ sym (is.meaning w);
}

-- ---- the zoning of ids
module _ (d : DesignTree) (g : GameData) (is : IsExactOf d g) (region : NodeId) (ranks : List RankSet) (j : ℕ)
    (turn_set : IsSet g g.turn) (in_region : IsSet g region) (in_ranks : HasSets g ranks) where
  abbrev z : Zoning
  z = zoning_of g region ranks j

  abbrev rank_of : RankSet → Rank
  rank_of r = record {
    set = means g.diagrams.table r.set;
    fair = means g.diagrams.table (id_in g.fairs r.fair);
  }

  goal_set : (k : ℕ) → IsSet g (id_in g.goals k)
  goal_set k =
      elim (cases_lt k (length g.goals)) as (λ _. IsSet g (id_in g.goals k)) [
        | inl below ↦
            (states_set d g is (λ s. goal_holds d s k ≡ true) (id_in g.goals k) (is.sets.goals k FALSE below)).set
        | inr past ↦ subst (IsSet g) (sym (get_or_past g.goals k FALSE past)) (false_set g)
      ]

  fair_set : (k : ℕ) → IsSet g (id_in g.fairs k)
  fair_set k =
      elim (cases_lt k (length g.fairs)) as (λ _. IsSet g (id_in g.fairs k)) [
        | inl below ↦
            (states_set d g is (λ s. IsFair d s k) (id_in g.fairs k) (is.sets.fairs k FALSE below)).set
        | inr past ↦ subst (IsSet g) (sym (get_or_past g.fairs k FALSE past)) (false_set g)
      ]

  rank_there : (k : ℕ) (r : RankSet) → slice_get ranks k ≡ Some r → rank_at z k ≡ rank_of r
  rank_there k r there =
      get_or-map rank_of ranks k r (record { set = nothing; fair = nothing }) (slice_get_within ranks k r there)
      ∙ ap rank_of (get_or_from_slice_get ranks k r r there)

  pub zoning_tells : Tells g region ranks j z
  zoning_tells = record {
    region_is = record { known = in_region.known; meaning = λ v. refl };
    turn_is = record { known = turn_set.known; meaning = λ v. refl };
    goal_is = record { known = (goal_set j).known; meaning = λ v. refl };
    count = length-map ranks rank_of;
    set_is = λ k r there. record {
      known = (in_ranks.each k r there).known;
      meaning = λ v. ap (λ (x : Rank). x.set v) (sym (rank_there k r there));
    };
    fair_is = λ k r there. record {
      known = (fair_set r.fair).known;
      meaning = λ v. ap (λ (x : Rank). x.fair v) (sym (rank_there k r there));
    };
  }

  -- a rank reads the state, whether it is there or not
  rank_reads : (k : ℕ) → ReadsState (length g.order) (rank_at z k).set × ReadsState (length g.order) (rank_at z k).fair
  rank_reads k =
      elim (cases_lt k (length ranks)) as (λ _.
      ReadsState (length g.order) (rank_at z k).set × ReadsState (length g.order) (rank_at z k).fair) [
        | inl below ↦ there k below
        | inr past ↦
            let none : rank_at z k ≡ record { set = nothing; fair = nothing } =
            get_or_past (map rank_of ranks) k (record { set = nothing; fair = nothing })
            (let long = length-map ranks rank_of in omega (arith, long, past)) in
            subst (λ (r : Rank). ReadsState (length g.order) r.set × ReadsState (length g.order) r.fair) (sym none)
            ((λ v w one. refl), (λ v w one. refl))
      ]
    where
      there : (n : ℕ) → n < length ranks →
          ReadsState (length g.order) (rank_at z n).set × ReadsState (length g.order) (rank_at z n).fair
      there n below =
          let found = item ranks n below in
          subst (λ (r : Rank). ReadsState (length g.order) r.set × ReadsState (length g.order) r.fair)
          (sym (rank_there n found.0 found.1))
          ((in_ranks.each n found.0 found.1).reads, (fair_set found.0.fair).reads)
        where
          item : (rs : List RankSet) (m : ℕ) → m < length rs → (r : RankSet) × (slice_get rs m ≡ Some r)
          item [] m low = absurd (omega (arith, low))
          item (r ∷ rs) zero low = (r, refl)
          item (r ∷ rs) (suc m) low = item rs m (omega (arith, low))

  zoning_reads : ReadsZoning (length g.order) z
  zoning_reads = record {
    region = in_region.reads;
    turn = turn_set.reads;
    goal = (goal_set j).reads;
    set = λ k. (rank_reads k).0;
    fair = λ k. (rank_reads k).1;
  }

  pub zone_sets : (h : GameData) → Grows g h → (ids : List NodeId) (n : ℕ) →
      AreZones h.diagrams.table z n ids → AreSets h ids
  zone_sets h grows ids n are = record {
    each = λ k id there.
        function_set h id (zone z k)
        (subst (λ (o : List ℕ). ReadsState (length o) (zone z k)) (sym grows.order)
        (zone_reads (length g.order) z zoning_reads k)) (are.each k id there);
  }

  -- ---- growth
  module _ (h : GameData) (grows : Grows g h) where
    means_same : (id : NodeId) → IsSet g id → means h.diagrams.table id ≡ means g.diagrams.table id
    means_same id set = means-Extends g.diagrams.table h.diagrams.table grows.diagrams id set.known

    abbrev rank_now : RankSet → Rank
    rank_now r = record {
      set = means h.diagrams.table r.set;
      fair = means h.diagrams.table (id_in h.fairs r.fair);
    }

    ranks_same : (rs : List RankSet) → HasSets g rs → map rank_now rs ≡ map rank_of rs
    ranks_same [] sets = refl
    ranks_same (r ∷ rs) sets =
        let set = means_same r.set (sets.each 0 r refl) in
        let fair = ap (λ (l : List NodeId). means h.diagrams.table (id_in l r.fair)) grows.fairs
        ∙ means_same (id_in g.fairs r.fair) (fair_set r.fair) in
        let others = ranks_same rs (record { each = λ k x there. sets.each (suc k) x there }) in
        λ i. (record { set = set i; fair = fair i }) ∷ others i

    pub zoning_same : zoning_of h region ranks j ≡ z
    zoning_same =
        let turn = ap (means h.diagrams.table) grows.turn ∙ means_same g.turn turn_set in
        let goal = ap (λ (l : List NodeId). means h.diagrams.table (id_in l j)) grows.goals
        ∙ means_same (id_in g.goals j) (goal_set j) in
        λ i. record {
          region = means_same region in_region i;
          turn = turn i;
          goal = goal i;
          ranks = ranks_same ranks in_ranks i;
        }

-- the zones and targets of a goal stay what they are
pub zoned_kept : (d : DesignTree) (g h : GameData) → IsExactOf d g → Grows g h → (region : NodeId)
    (ranks : List RankSet) (j : ℕ) (zones targets : List NodeId) → AreZonesFor g region ranks j zones targets →
    AreZonesFor h region ranks j zones targets
zoned_kept d g h is grows region ranks j zones targets are = record {
  region_set = set_kept g h grows region are.region_set;
  rank_sets = record { each = λ k r there. set_kept g h grows r.set (are.rank_sets.each k r there) };
  turn_set = subst (IsSet h) (sym grows.turn) (set_kept g h grows g.turn are.turn_set);
  zone_sets = record { each = λ k id there. set_kept g h grows id (are.zone_sets.each k id there) };
  target_sets = record { each = λ k id there. set_kept g h grows id (are.target_sets.each k id there) };
  zones_are = subst (λ (z : Zoning). AreZones h.diagrams.table z (suc (length ranks)) zones) (sym same)
      (zones_kept g h (λ base b. grows_then base g h b grows) (zoning_of g region ranks j) (suc (length ranks)) zones
      are.zones_are);
  targets_are = subst (λ (z : Zoning). AreTargets h.diagrams.table z (suc (length ranks)) targets) (sym same)
      (targets_kept g h (λ base b. grows_then base g h b grows) (zoning_of g region ranks j) (suc (length ranks))
      targets are.targets_are);
}
  where
    same : zoning_of h region ranks j ≡ zoning_of g region ranks j
    same = zoning_same d g is region ranks j are.turn_set are.region_set are.rank_sets h grows

-- zones that were found over g, when it had grown to m, and then targets, when it had grown to t
pub zoned_made : (d : DesignTree) (g m t : GameData) → IsExactOf d g → Grows g m → Grows m t → (region : NodeId)
    (ranks : List RankSet) (j : ℕ) (zones targets : List NodeId) → IsSet g g.turn → IsSet g region → HasSets g ranks →
    ((w : Zoning) → Tells g region ranks j w → AreZones m.diagrams.table w (suc (length ranks)) zones) →
    ((i : ℕ) (w : Zoning) → Tells m region ranks i w → AreTargets t.diagrams.table w (suc (length ranks)) targets) →
    AreSets t targets → AreZonesFor t region ranks j zones targets
zoned_made d g m t is to_m to_t region ranks j zones targets turn in_region in_ranks zones_of targets_of sets = record {
  region_set = set_kept m t to_t region region_m;
  rank_sets = ranks_in m t to_t ranks_m;
  turn_set = turn_in m t to_t turn_m;
  zone_sets = record { each = λ k id there. set_kept m t to_t id (zone_sets_m.each k id there) };
  target_sets = sets;
  zones_are = subst (λ (z : Zoning). AreZones t.diagrams.table z (suc (length ranks)) zones) (sym (same_m ∙ same_g))
      (zones_kept m t (λ base b. grows_then base m t b to_t) (zoning_of g region ranks j) (suc (length ranks)) zones
      found);
  targets_are = subst (λ (z : Zoning). AreTargets t.diagrams.table z (suc (length ranks)) targets) (sym same_m)
      (targets_of j (zoning_of m region ranks j)
      (zoning_tells d m is_m region ranks j turn_m region_m ranks_m));
}
  where
    is_m : IsExactOf d m
    is_m = kept_exact d g is m to_m

    region_m : IsSet m region
    region_m = set_kept g m to_m region in_region

    ranks_in : (a b : GameData) → Grows a b → HasSets a ranks → HasSets b ranks
    ranks_in a b grows are = record { each = λ k r there. set_kept a b grows r.set (are.each k r there) }

    turn_in : (a b : GameData) → Grows a b → IsSet a a.turn → IsSet b b.turn
    turn_in a b grows set = subst (IsSet b) (sym grows.turn) (set_kept a b grows a.turn set)

    ranks_m : HasSets m ranks
    ranks_m = ranks_in g m to_m in_ranks

    turn_m : IsSet m m.turn
    turn_m = turn_in g m to_m turn

    found : AreZones m.diagrams.table (zoning_of g region ranks j) (suc (length ranks)) zones
    found = zones_of (zoning_of g region ranks j) (zoning_tells d g is region ranks j turn in_region in_ranks)

    zone_sets_m : AreSets m zones
    zone_sets_m = zone_sets d g is region ranks j turn in_region in_ranks m to_m zones (suc (length ranks)) found

    same_g : zoning_of m region ranks j ≡ zoning_of g region ranks j
    same_g = zoning_same d g is region ranks j turn in_region in_ranks m to_m

    same_m : zoning_of t region ranks j ≡ zoning_of m region ranks j
    same_m = zoning_same d m is_m region ranks j turn_m region_m ranks_m t to_t
