-- One round, or the safe states, of iterates from which a solution may go on.
use Rattle.std.proofs.Common.{◌≡◌, ◌≢◌, ◌<◌, List, sym, subst}
use Rattle.tm_dd.specs.declared.node.NodeId.{NodeId}
use Rattle.tm_solve.specs.declared.iterates.Iterates.{Iterates}
use Rattle.tm_solve.specs.declared.rounds.Remaining.{Remaining}
use Rattle.tm_solve.specs.Sets.{count}
use Rattle.tm_solve.specs.Game.{Game, IsMonotone, IsAbsorbing}
use Rattle.tm_solve.specs.Narrowed.{narrowed}
use Rattle.tm_solve.specs.Ids.{Ids, IsExact, Extends}
use Rattle.tm_solve.specs.Fixpoints.{InRegion, Holds}
use Rattle.tm_solve.specs.Iterates.{Each, KnowsRanks}
use Rattle.tm_solve.specs.declared.iterates.Ranking.{Ranking}
use Rattle.tm_solve.specs.Begun.{IsBegun}
use Rattle.tm_solve.specs.Inner.Rounds.{IsLeveled, IsRemaining, RegionSoFar}
use Rattle.tm_solve.specs.Inner.Safety.{Keeps}
use Rattle.tm_solve.proofs.SolveSteps.{region_goes_on, region_shrinks, region_ends}
use Rattle.tm_solve.proofs.Views.{rankings_known}

-- known ranked sets, a set that holds the region and levels that lead to all outside it
begun_of : {g : Game} {ids : Ids} (it : Iterates) → Each (λ (r : Ranking). KnowsRanks ids r.sets.items) it.ranks.items →
    (left : NodeId) → it.region ≡ left → RegionSoFar g ids left → IsLeveled g ids left it.levels.items →
    IsBegun g ids it
begun_of {g = g} {ids = ids} it ranks left region_is far leveled =
    let here = subst (λ (id : NodeId). RegionSoFar g ids id) (sym region_is) far in
    let there = subst (λ (id : NodeId). IsLeveled g ids id it.levels.items) (sym region_is) leveled in
    record {
      known = record { region = here.known; ranks = ranks; levels = there.known };
      above = here.above;
      levels = record { levels = there.levels; last = there.last };
    }

module _ (g : Game) (a : Ids) (begun : Iterates) (is : IsBegun g a begun) where
  pub begun_region : RegionSoFar g a begun.region
  begun_region = record { known = is.known.region; above = is.above }

  pub begun_leveled : IsLeveled g a begun.region begun.levels.items
  begun_leveled = record { known = is.known.levels; levels = is.levels.levels; last = is.levels.last }

  -- from the safe states a solution may go on, too
  pub begun_kept : (b : Ids) (it : Iterates) (left : NodeId) → it.region ≡ left →
      it.ranks.items ≡ begun.ranks.items → Extends a b →
      Keeps g a b begun.region left begun.levels.items it.levels.items → IsBegun g b it
  begun_kept b it left region_is ranks_are ab keeps =
      begun_of it
      (subst (λ (l : List Ranking). Each (λ (q : Ranking). KnowsRanks b q.sets.items) l) (sym ranks_are)
      (rankings_known ab begun.ranks.items is.known.ranks)) left region_is (keeps.region begun_region)
      (keeps.leveled begun_leveled)

  module _ (b : Ids) (r : Remaining)
      (remaining : IsRemaining (narrowed g (a.means begun.region)) b (a.means begun.region) r) where
    -- from what a round leaves a solution may go on, too
    pub begun_on : IsMonotone g → IsAbsorbing g → (it : Iterates) → it.region ≡ r.region →
        it.ranks.items ≡ r.ranks.items → IsLeveled g b r.region it.levels.items → IsBegun g b it
    begun_on mono absorb it region_is ranks_are leveled =
        begun_of it
        (subst (λ (l : List Ranking). Each (λ (q : Ranking). KnowsRanks b q.sets.items) l) (sym ranks_are)
        remaining.ranks.known) r.region region_is
        (region_goes_on g mono absorb begun.region r begun_region remaining) leveled

    pub begun_ends : Extends a b → r.region ≡ begun.region →
        Holds g.states (b.means r.region) (InRegion g)
    begun_ends ab same =
        subst (λ (id : NodeId). Holds g.states (b.means id) (InRegion g)) (sym same)
        (region_ends g begun.region r begun_region remaining ab same)

    pub begun_falls : Extends a b → IsExact g.states b → r.region ≢ begun.region →
        count g.states (b.means r.region) < count g.states (a.means begun.region)
    begun_falls ab exact differ = region_shrinks g begun.region r begun_region remaining ab exact differ
