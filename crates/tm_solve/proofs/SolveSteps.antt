-- The loop that seeks the region, the greatest fixpoint over Z.
use Rattle.std.proofs.Common.{◌≡◌, ◌≢◌, ℕ, zero, suc, ◌<◌, true, arith, List, [], ◌∷◌, map, length, slice_get, Some, refl, sym, ap, ◌∙◌, subst}
use Rattle.tm_dd.specs.declared.node.NodeId.{NodeId}
use Rattle.tm_sem.specs.State.{StateData}
use Rattle.tm_sem.specs.Certificates.{RankedSet, nowhere}
use Rattle.tm_solve.specs.declared.iterates.Iterates.{Iterates}
use Rattle.tm_solve.specs.declared.iterates.LevelSet.{LevelSet}
use Rattle.tm_solve.specs.declared.iterates.Ranking.{Ranking}
use Rattle.tm_solve.specs.declared.iterates.RankSet.{RankSet}
use Rattle.tm_solve.specs.declared.rounds.Remaining.{Remaining}
use Rattle.tm_solve.specs.Sets.{StateSet, IsAmong, IsWithin, IsSame, count}
use Rattle.tm_solve.specs.Game.{Game, IsMonotone, IsAbsorbing}
use Rattle.tm_solve.specs.Narrowed.{narrowed}
use Rattle.tm_solve.specs.Ids.{Ids, IsExact, Extends}
use Rattle.tm_solve.specs.Fixpoints.{InReach, InRegion, Holds}
use Rattle.tm_solve.specs.Levels.{LevelsFit}
use Rattle.tm_solve.specs.Ranks.{AreRanks, last_ranked, RankGoal, RanksFit}
use Rattle.tm_solve.specs.Iterates.{Each, KnowsRanks, EndAt, level_of, ranked_set, ranked_sets, driver_sets, last_id}
use Rattle.tm_solve.specs.Inner.Rounds.{IsLeveled, IsRemaining, RegionSoFar}
use Rattle.tm_solve.proofs.Sets.{both_same, count_gains}
use Rattle.tm_solve.proofs.Following.{other_gains}
use Rattle.tm_solve.proofs.Items.{get_below, length_mapped}
use Rattle.tm_solve.proofs.Narrowing.{reach_narrowed, reach_of_narrowed, reach_within, ranks_of_narrowed}

-- what a round answers, said of the game of the start
pub remaining_at : (g h : Game) (ids : Ids) (z : StateSet) (r : Remaining) → h ≡ g →
    IsRemaining (narrowed h z) ids z r → IsRemaining (narrowed g z) ids z r
remaining_at g h ids z r same_game is = subst (λ (q : Game). IsRemaining (narrowed q z) ids z r) same_game is

pub leveled_at : (g h : Game) (ids : Ids) (z : NodeId) (items : List LevelSet) → h ≡ g → IsLeveled h ids z items →
    IsLeveled g ids z items
leveled_at g h ids z items same_game is = subst (λ (q : Game). IsLeveled q ids z items) same_game is

-- levels that lead to all outside what is left fit the region
pub levels_end : (g : Game) (ids : Ids) (left z : NodeId) (items : List LevelSet) → left ≡ z →
    IsLeveled g ids left items → LevelsFit g (ids.means z) (map (level_of ids) items)
levels_end g ids left z items same l =
    subst (λ (id : NodeId). LevelsFit g (ids.means id) (map (level_of ids) items)) same
    (record { levels = l.levels; last = l.last })

-- the id of the last ranked set is known, and means the last set
last_known : (ids : Ids) (id : NodeId) (rs : List RankSet) → ids.knows id → KnowsRanks ids rs →
    ids.knows (last_id id rs)
last_known ids id [] known all = known
last_known ids id (r ∷ rs) known all = last_known ids r.set rs all.0 all.1

last_means : (ids : Ids) (id : NodeId) (rs : List RankSet) →
    ids.means (last_id id rs) ≡ last_ranked (ids.means id) (map (ranked_set ids) rs)
last_means ids id [] = refl
last_means ids id (r ∷ rs) = last_means ids r.set rs

ends_at : (n : List StateData) (ids : Ids) (z : NodeId) (rs : List RankSet) → IsExact n ids → ids.knows z →
    KnowsRanks ids rs → IsSame n (last_ranked nowhere (map (ranked_set ids) rs)) (ids.means z) → last_id z rs ≡ z
ends_at n ids z [] exact known all same = refl
ends_at n ids z (r ∷ rs) exact known all same =
    exact.equal (last_id r.set rs) z (last_known ids r.set rs all.0 all.1) known
    (subst (λ (m : StateSet). IsSame n m (ids.means z)) (sym (last_means ids r.set rs)) same)

end_all : (n : List StateData) (ids : Ids) (z : NodeId) (items : List Ranking) → IsExact n ids → ids.knows z →
    Each (λ (r : Ranking). KnowsRanks ids r.sets.items) items →
    ((j : ℕ) (ranked : List RankedSet) → slice_get (map (ranked_sets ids) items) j ≡ Some ranked →
    IsSame n (last_ranked nowhere ranked) (ids.means z)) → EndAt z items
end_all n ids z [] exact known all same = tt
end_all n ids z (r ∷ rs) exact known all same = (
  ends_at n ids z r.sets.items exact known all.0 (same zero (ranked_sets ids r) refl),
  end_all n ids z rs exact known all.1 (λ j ranked got. same (suc j) ranked got),
)

module _ (g : Game) where
  -- what is left of an iterate that holds the region holds it
  pub region_goes_on : IsMonotone g → IsAbsorbing g → {a b : Ids} (z : NodeId) (r : Remaining) → RegionSoFar g a z →
      IsRemaining (narrowed g (a.means z)) b (a.means z) r → RegionSoFar g b r.region
  region_goes_on mono absorb {a = a} z r far remaining = record {
    known = remaining.region.known;
    above = λ s among region. remaining.region.set.all s among (
      far.above s among region,
      λ j below. reach_narrowed g mono absorb region.set region.holds (a.means z) far.above j below s among
          (region.holds s among region.here j below),
    );
  }

  -- another iterate has fewer states
  pub region_shrinks : {a b : Ids} (z : NodeId) (r : Remaining) → RegionSoFar g a z →
      IsRemaining (narrowed g (a.means z)) b (a.means z) r → Extends a b → IsExact g.states b → r.region ≢ z →
      count g.states (b.means r.region) < count g.states (a.means z)
  region_shrinks {a = a} {b = b} z r far remaining ab exact differ =
      let w : IsWithin g.states (b.means r.region) (a.means z) =
      record { within = λ s among here. (remaining.region.set.only s among here).0 } in
      let e : b.means z ≡ a.means z = ab.same z far.known in
      let w' : IsWithin g.states (b.means r.region) (b.means z) =
      subst (λ (m : StateSet). IsWithin g.states (b.means r.region) m) (sym e) w in
      subst (λ (m : StateSet). count g.states (b.means r.region) < count g.states m) e
      (count_gains g.states (b.means r.region) (b.means z) w'
      (other_gains r.region z exact remaining.region.known (ab.known z far.known) differ w'))

  module _ {a b : Ids} (z : NodeId) (r : Remaining) (far : RegionSoFar g a z)
      (remaining : IsRemaining (narrowed g (a.means z)) b (a.means z) r)
      (ab : Extends a b) (same_id : r.region ≡ z) where
    same_set : b.means z ≡ a.means z
    same_set = ab.same z far.known

    inside : (s : StateData) → IsAmong s g.states → a.means z s ≡ true → (k : ℕ) → k < g.goals →
        InReach (narrowed g (a.means z)) (a.means z) k s
    inside s among here =
        (remaining.region.set.only s among (subst (λ (m : StateSet). m s ≡ true)
        (sym (ap b.means same_id ∙ same_set)) here)).1

    -- an iterate that stays as it was is the region
    pub region_ends : Holds g.states (b.means z) (InRegion g)
    region_ends = subst (λ (m : StateSet). Holds g.states m (InRegion g)) (sym same_set) (record {
      only = λ s among here. record {
        set = a.means z;
        holds = λ t in_n in_z k below. reach_of_narrowed g (a.means z) (a.means z) k t (inside t in_n in_z k below);
        here = here;
      };
      all = far.above;
    })

    goal_ends : (j : ℕ) (ranked : List RankedSet) → slice_get (map (ranked_sets b) r.ranks.items) j ≡ Some ranked →
        IsSame g.states (last_ranked nowhere ranked) (b.means z)
    goal_ends j ranked got =
        let less = get_below (map (ranked_sets b) r.ranks.items) j ranked got in
        let many = length_mapped (ranked_sets b) r.ranks.items in
        let below : j < g.goals = omega (arith, remaining.ranks.many) in
        subst (λ (m : StateSet). IsSame g.states (last_ranked nowhere ranked) m) (sym same_set)
        (both_same (record {
          within = λ s among here. reach_within g (a.means z) j s
              ((remaining.ranks.each j ranked got).last.only s among here);
        }) (record {
          within = λ s among here.
              (remaining.ranks.each j ranked got).last.all s among (inside s among here j below);
        }))

    module _ (it : Iterates) (region_is : it.region ≡ z) (ranks_are : it.ranks.items ≡ r.ranks.items) where
      pub ranks_fit : RanksFit g (driver_sets b it)
      ranks_fit =
          let e : b.means it.region ≡ b.means z = ap b.means region_is in
          record {
            goals = length_mapped (ranked_sets b) it.ranks.items ∙ ap length ranks_are ∙ remaining.ranks.many;
            each = λ j ranked got.
                let got_r : slice_get (map (ranked_sets b) r.ranks.items) j ≡ Some ranked =
                subst (λ (l : List Ranking). slice_get (map (ranked_sets b) l) j ≡ Some ranked) ranks_are got in
                subst (λ (m : StateSet). RankGoal g m j ranked) (sym e) (record {
                  ranks = subst (λ (m : StateSet). AreRanks g m j nowhere ranked) (sym same_set)
                      (ranks_of_narrowed g (a.means z) (a.means z) j nowhere ranked
                      (remaining.ranks.each j ranked got_r).ranks);
                  last = goal_ends j ranked got_r;
                });
          }

      pub last_ends : IsExact g.states b → EndAt it.region it.ranks.items
      last_ends exact =
          subst (λ (id : NodeId). EndAt id it.ranks.items) (sym region_is)
          (subst (λ (l : List Ranking). EndAt z l) (sym ranks_are)
          (end_all g.states b z r.ranks.items exact (ab.known z far.known) remaining.ranks.known goal_ends))
