-- The loop that removes what is not safe.
use Rattle.std.proofs.Common.{◌≡◌, ◌≢◌, ℕ, zero, suc, ◌+◌, ◌<◌, Bool, true, false, not, ◌&&◌, List, [], ◌∷◌, ◌++◌, map, slice_get, Some, refl, sym, ap, ◌∙◌, subst}
use Rattle.tm_dd.specs.declared.node.NodeId.{NodeId}
use Rattle.tm_sem.specs.State.{StateData}
use Rattle.tm_sem.specs.Certificates.{nowhere}
use Rattle.tm_solve.specs.declared.iterates.Chain.{Chain}
use Rattle.tm_solve.specs.declared.iterates.LevelSet.{LevelSet}
use Rattle.tm_solve.specs.Sets.{StateSet, outside, common, everywhere, IsAmong, IsWithin, IsSame, Gains, count}
use Rattle.tm_solve.specs.Game.{Game, IsMonotone, IsAbsorbing}
use Rattle.tm_solve.specs.Safety.{IsSafe}
use Rattle.tm_solve.specs.Narrowed.{narrowed}
use Rattle.tm_solve.specs.Ids.{Ids, Is, IsExact, Extends, Follows}
use Rattle.tm_solve.specs.Fixpoints.{InSome, InRegion}
use Rattle.tm_solve.specs.Iterates.{Each, KnowsChain, chain_sets}
use Rattle.tm_solve.specs.Inner.Goals.{LeadsOut, LeadOut}
use Rattle.tm_solve.specs.Inner.Rounds.{IsLeveled, AddsLevel, RegionSoFar}
use Rattle.tm_solve.specs.Inner.Safety.{Keeps, AreSingle}
use Rattle.tm_solve.proofs.Sets.{within_here, within_then, both_same, same_then, outside_same, outside_twice, count_gains}
use Rattle.tm_solve.proofs.Following.{other_gains, extends_then, follows_then}
use Rattle.tm_solve.proofs.Items.{each_more, each_kept, length_more, some_same}
use Rattle.tm_solve.proofs.Joins.{and_left, and_right, and_both}
use Rattle.tm_solve.proofs.Narrowing.{met_at, reach_narrowed}
use Rattle.tm_solve.proofs.RoundSteps.{leveled_stays, level_added}
use Rattle.tm_solve.proofs.WaitSteps.{part_at, removed_is}

-- one chain of one set more
pub single_more : (set : NodeId) (count : ℕ) (chains more : List Chain) (chain : Chain) → AreSingle set count chains →
    chain.sets.items ≡ set ∷ [] → more ≡ chains ++ chain ∷ [] → AreSingle set (count + 1) more
single_more set count chains more chain far one pushed =
    subst (λ (l : List Chain). AreSingle set (count + 1) l) (sym pushed) (record {
      many = length_more chains chain ∙ ap (λ n. n + 1) far.many;
      each = each_more (λ (c : Chain). c.sets.items ≡ set ∷ []) chains chain far.each one;
    })

pub single_all : {set : NodeId} {made count : ℕ} {chains : List Chain} → AreSingle set made chains → made ≡ count →
    AreSingle set count chains
single_all {set = set} {chains = chains} far all = subst (λ (n : ℕ). AreSingle set n chains) all far

single_known : (ids : Ids) (set : NodeId) (chains : List Chain) → ids.knows set →
    Each (λ (c : Chain). c.sets.items ≡ set ∷ []) chains → Each (KnowsChain ids) chains
single_known ids set chains known each =
    each_kept (λ (c : Chain). c.sets.items ≡ set ∷ []) (KnowsChain ids)
    (λ c one. subst (λ (l : List NodeId). Each ids.knows l) (sym one) (known, tt)) chains each

single_seen : (ids : Ids) (set : NodeId) (chains : List Chain) →
    Each (λ (c : Chain). c.sets.items ≡ set ∷ []) chains → (i : ℕ) (sets : List StateSet) →
    slice_get (map (chain_sets ids) chains) i ≡ Some sets → sets ≡ ids.means set ∷ []
single_seen ids set [] each i sets got = cc
single_seen ids set (c ∷ cs) each zero sets got = sym (some_same got) ∙ ap (map ids.means) each.0
single_seen ids set (c ∷ cs) each (suc i) sets got = single_seen ids set cs each.1 i sets got

-- the states of a set in what the operator makes of it
abbrev pub kept_in : Game → StateSet → StateSet
kept_in g z = common (g.part z z z 0 0) z

module _ (g : Game) (mono : IsMonotone g) (absorb : IsAbsorbing g) (z : StateSet) where
  -- of sets that lie in it the operator makes no more, whatever condition is waited for
  kept_rises : (y x : StateSet) (i : ℕ) → IsWithin g.states y z → IsWithin g.states x z →
      IsWithin g.states (g.part z y x 0 i) (g.part z z z 0 0)
  kept_rises y x i in_y in_x =
      within_then (mono.rises z z y z x z 0 i (within_here _ _) in_y in_x)
      (absorb.wait z z z z 0 i 0 (within_here _ _))

  -- all outside what is kept is a chain, for each condition
  single_leads : (kept removed : StateSet) (i : ℕ) → IsSame g.states kept (kept_in g z) →
      IsSame g.states removed (outside kept) → LeadsOut (narrowed g z) z kept 0 i (removed ∷ [])
  single_leads kept removed i same out =
      let from : StateSet = common (outside nowhere) z in
      let in_z : IsWithin g.states kept z =
      record { within = λ s among here. and_right (g.part z z z 0 0 s) (z s) (sym (same.same s among) ∙ here) } in
      let left : IsSame g.states (outside removed) kept = same_then (outside_same out) (outside_twice _ _) in
      record {
        links = (
          (
            record { within = λ s among here. cc },
            record {
              within = λ s among here. left.same s among ∙ same.same s among
                  ∙ and_both (g.part z z z 0 0 s) (z s)
                  ((kept_rises kept from i in_z
                  (record { within = λ t in_n both. and_right (outside nowhere t) (z t) both })).within s among
                  (and_left (g.part z kept from 0 i s) (z s) here))
                  (and_right (g.part z kept from 0 i s) (z s) here);
            },
          ),
          tt,
        );
        ends = both_same (record {
          within = λ s among here. sym (left.same s among) ∙ and_left (outside removed s) (z s) here;
        }) (record {
          within = λ s among here. and_both (outside removed s) (z s) (left.same s among ∙ here)
              (in_z.within s among here);
        });
      }

  single_lead : (ids : Ids) (kept removed : NodeId) (chains : List Chain) →
      IsSame g.states (ids.means kept) (kept_in g z) → ids.knows removed →
      IsSame g.states (ids.means removed) (outside (ids.means kept)) → AreSingle removed g.fairs chains →
      LeadOut (narrowed g z) ids z (ids.means kept) 0 chains
  single_lead ids kept removed chains same known out single = record {
    known = single_known ids removed chains known single.each;
    many = single.many;
    each = λ i sets got.
        subst (λ (l : List StateSet). LeadsOut (narrowed g z) z (ids.means kept) 0 i l)
        (sym (single_seen ids removed chains single.each i sets got))
        (single_leads (ids.means kept) (ids.means removed) i same out);
  }

  -- what is kept holds the region, if the set does
  region_kept : 0 < g.goals → ((s : StateData) → IsAmong s g.states → InRegion g s → z s ≡ true) →
      (s : StateData) → IsAmong s g.states → InRegion g s → kept_in g z s ≡ true
  region_kept goal above s among region =
      (reach_narrowed g mono absorb region.set region.holds z above 0 goal s among
      (region.holds s among region.here 0 goal)).every (kept_in g z) kept
    where
      kept : (t : StateData) → IsAmong t g.states → InSome (narrowed g z) z (kept_in g z) 0 t → kept_in g z t ≡ true
      kept t in_n (i, less, stay) =
          let here = stay.holds t in_n stay.here in
          and_both (g.part z z z 0 0 t) (z t)
          ((kept_rises (kept_in g z) stay.set i
          (record { within = λ u u_in both. and_right (g.part z z z 0 0 u) (z u) both })
          (record {
            within = λ u u_in held. and_right (g.part z (kept_in g z) stay.set 0 i u) (z u) (stay.holds u u_in held);
          })).within t in_n
          (and_left (g.part z (kept_in g z) stay.set 0 i t) (z t) here))
          (and_right (g.part z (kept_in g z) stay.set 0 i t) (z t) here)

-- what was left is left still, and one step goes on from another
pub keeps_stays : {g : Game} {a b c : Ids} {start z : NodeId} {old new : List LevelSet} → Extends b c → b.knows z →
    Keeps g a b start z old new → Keeps g a c start z old new
keeps_stays {g = g} {a = a} {b = b} {c = c} {start = start} {z = z} {old = old} {new = new} bc known keeps = record {
  known = bc.known z known;
  falls = subst (λ (m : StateSet). IsWithin g.states m (a.means start)) (sym (bc.same z known)) keeps.falls;
  region = λ far. let here = keeps.region far in record {
    known = bc.known z known;
    above = λ s among region. ap (λ (m : StateSet). m s) (bc.same z known) ∙ here.above s among region;
  };
  leveled = λ levels. leveled_stays z new bc known (keeps.leveled levels);
}

pub keeps_then : {g : Game} {a b c : Ids} {x y z : NodeId} {k l m : List LevelSet} → Keeps g a b x y k l →
    Keeps g b c y z l m → Keeps g a c x z k m
keeps_then first next = record {
  known = next.known;
  falls = within_then next.falls first.falls;
  region = λ far. next.region (first.region far);
  leveled = λ levels. next.leveled (first.leveled levels);
}

-- what the loop begins with
pub whole_holds : {g : Game} {ids : Ids} (whole : NodeId) → Is g.states ids whole everywhere → RegionSoFar g ids whole
whole_holds whole is = record { known = is.known; above = λ s among region. is.means.same s among }

pub whole_leveled : {g : Game} {ids : Ids} (whole : NodeId) (levels : List LevelSet) → levels ≡ [] →
    Is g.states ids whole everywhere → IsLeveled g ids whole levels
whole_leveled {g = g} {ids = ids} whole levels none is =
    subst (λ (l : List LevelSet). IsLeveled g ids whole l) (sym none) (record {
      known = tt;
      levels = tt;
      last = record { same = λ s among. sym (ap not (is.means.same s among)) };
    })

-- what the operator makes of a set, met with it, said of the game of the start
pub kept_at : {g h k : Game} {o a b c : Ids} (z made kept : NodeId) → Follows g o h a → Follows h a k b → a.knows z →
    Is h.states b made (h.part (a.means z) (a.means z) (a.means z) 0 0) →
    Is k.states c kept (λ s. b.means made s && b.means z s) → Is g.states c kept (kept_in g (a.means z))
kept_at {g = g} {h = h} {k = k} {a = a} {b = b} {c = c} z made kept begun step known is met =
    met_at g k b c (a.means z) (g.part (a.means z) (a.means z) (a.means z) 0 0) z made kept
    (follows_then begun step).game (step.extends.same z known)
    (part_at g h a b (a.means z) (a.means z) z z z made 0 0 begun.game refl refl is) met

-- one turn: a the ids before, b after what is kept, c after what is removed, d after the level
module _ (g : Game) {a b : Ids} (z kept : NodeId) (known : a.knows z) (ab : Extends a b)
    (is : Is g.states b kept (kept_in g (a.means z))) where
  kept_falls : IsWithin g.states (b.means kept) (a.means z)
  kept_falls = record {
    within = λ s among here. and_right (g.part (a.means z) (a.means z) (a.means z) 0 0 s) (a.means z s)
        (sym (is.means.same s among) ∙ here);
  }

  -- where nothing is removed the set is safe
  pub same_safe : kept ≡ z → IsSafe g (b.means z)
  same_safe same = subst (λ (m : StateSet). IsSafe g m) (sym (ab.same z known)) (record {
    within = λ s among here. and_left (g.part (a.means z) (a.means z) (a.means z) 0 0 s) (a.means z s)
        (sym (is.means.same s among) ∙ ap (λ (m : StateSet). m s) (ap b.means same ∙ ab.same z known) ∙ here);
  })

  module _ {c d : Ids} (bc : Extends b c) (cd : Extends c d) (left : NodeId)
      (met : Is g.states d left (λ s. c.means z s && c.means kept s)) where
    left_falls : IsWithin g.states (d.means left) (a.means z)
    left_falls = record {
      within = λ s among here. ap (λ (m : StateSet). m s) (sym ((extends_then ab bc).same z known))
          ∙ and_left (c.means z s) (c.means kept s) (sym (met.means.same s among) ∙ here);
    }

    pub kept_shrinks : IsExact g.states b → kept ≢ z → count g.states (d.means left) < count g.states (a.means z)
    kept_shrinks exact differ =
        let lost : Gains g.states (b.means kept) (b.means z) =
        other_gains kept z exact is.known (ab.known z known) differ
        (subst (λ (m : StateSet). IsWithin g.states (b.means kept) m) (sym (ab.same z known)) kept_falls) in
        count_gains g.states (d.means left) (a.means z) left_falls (record {
          state = lost.state;
          listed = lost.listed;
          without_it = met.means.same lost.state lost.listed ∙ not_both (c.means z lost.state) (c.means kept lost.state)
              (ap (λ (m : StateSet). m lost.state) (bc.same kept is.known) ∙ lost.without_it);
          with_it = ap (λ (m : StateSet). m lost.state) (sym (ab.same z known)) ∙ lost.with_it;
        })
      where
        not_both : (p q : Bool) → q ≡ false → (p && q) ≡ false
        not_both true q e = e
        not_both false q e = refl

    pub turn_keeps : IsMonotone g → IsAbsorbing g → 0 < g.goals → (whole removed : NodeId) (fairs : ℕ)
        (chains : List Chain) (old new : List LevelSet) → Is g.states b whole everywhere →
        Is g.states c removed (λ s. b.means whole s && not (b.means kept s)) → AreSingle removed fairs chains →
        fairs ≡ g.fairs → IsExact g.states d → AddsLevel g.states d z 0 chains left old new →
        Keeps g a d z left old new
    turn_keeps mono absorb goal whole removed fairs chains old new all gone single fairs_are exact adds =
        let ac : Extends a c = extends_then ab bc in
        let same : IsSame g.states (c.means kept) (kept_in g (a.means z)) =
        subst (λ (m : StateSet). IsSame g.states m (kept_in g (a.means z))) (sym (bc.same kept is.known)) is.means in
        let out : IsSame g.states (c.means removed) (outside (c.means kept)) =
        subst (λ (m : StateSet). IsSame g.states (c.means removed) (outside m)) (sym (bc.same kept is.known))
        (removed_is whole kept removed all gone) in
        record {
          known = met.known;
          falls = left_falls;
          region = λ far. record {
            known = met.known;
            above = λ s among region.
                let here = region_kept g mono absorb (a.means z) goal far.above s among region in
                met.means.same s among ∙ and_both (c.means z s) (c.means kept s)
                (ap (λ (m : StateSet). m s) (ac.same z known)
                ∙ and_right (g.part (a.means z) (a.means z) (a.means z) 0 0 s) (a.means z s) here)
                (same.same s among ∙ here);
          };
          leveled = λ levels. level_added g mono (a.means z) 0 z left kept chains old new goal known (within_here _ _)
              levels (single_lead g mono absorb (a.means z) c kept removed chains same gone.known out
              (subst (λ (n : ℕ). AreSingle removed n chains) fairs_are single)) ac cd exact met adds;
        }
