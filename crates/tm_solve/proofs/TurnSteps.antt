-- The loop over the fairness conditions of one turn.
use Rattle.std.proofs.Common.{◌≡◌, ◌⊎◌, inl, inr, ℕ, ◌+◌, ◌<◌, true, false, ◌||◌, List, [], ◌∷◌, ◌++◌, map, length, slice_get, Some, refl, sym, ap, ◌∙◌, subst, arith}
use Rattle.tm_dd.specs.declared.node.NodeId.{NodeId}
use Rattle.tm_sem.specs.State.{StateData}
use Rattle.tm_sem.specs.Certificates.{RankedSet, nowhere}
use Rattle.tm_solve.specs.declared.iterates.RankSet.{RankSet}
use Rattle.tm_solve.specs.declared.iterates.Chain.{Chain}
use Rattle.tm_solve.specs.declared.conditions.Waited.{Waited}
use Rattle.tm_solve.specs.declared.turns.Turned.{Turned}
use Rattle.tm_solve.specs.Sets.{StateSet, IsAmong, IsWithin, IsSame, Gains}
use Rattle.tm_solve.specs.Game.{Game, IsMonotone}
use Rattle.tm_solve.specs.Narrowed.{narrowed}
use Rattle.tm_solve.specs.Ids.{Ids, Is, IsExact, Extends}
use Rattle.tm_solve.specs.Fixpoints.{InStay, InSome, Holds}
use Rattle.tm_solve.specs.Ranks.{AreRanks, IsRank, last_ranked}
use Rattle.tm_solve.specs.Iterates.{KnowsChain, chain_sets, ranked_set}
use Rattle.tm_solve.specs.Inner.Waits.{IsWaited, IsChain}
use Rattle.tm_solve.specs.Inner.Turns.{IsRanked, AddsRank, AreChains, IsTurned, TurnsSoFar}
use Rattle.tm_solve.proofs.Sets.{within_here, within_then, same_back, same_within}
use Rattle.tm_solve.proofs.Following.{other_gains, extends_then}
use Rattle.tm_solve.proofs.Items.{map_more, each_more, length_more, seen_more}
use Rattle.tm_solve.proofs.Views.{chain_stays, chain_known, chains_stay, chains_known, ranks_stay, ranks_known}
use Rattle.tm_solve.proofs.Joins.{or_cases, or_left, or_right, or_second}

-- what the wait for a condition answers, said of the game and the sets of the start
pub waited_at : (g h : Game) (ids : Ids) (zs ys zm ym : StateSet) (j i : ℕ) (w : Waited) → h ≡ g → zm ≡ zs → ym ≡ ys →
    IsWaited (narrowed h zm) ids zm ym j i w → IsWaited (narrowed g zs) ids zs ys j i w
waited_at g h ids zs ys zm ym j i w same_game same_z same_y is =
    subst (λ (q : Game). IsWaited (narrowed q zs) ids zs ys j i w) same_game
    (subst (λ (v : StateSet). IsWaited (narrowed h zs) ids zs v j i w) same_y
    (subst (λ (v : StateSet). IsWaited (narrowed h v) ids v ym j i w) same_z is))

ranks_more : (g : Game) (z : StateSet) (j : ℕ) (before : StateSet) (rs : List RankedSet) (r : RankedSet) →
    AreRanks g z j before rs → IsRank g z j (last_ranked before rs) r → AreRanks g z j before (rs ++ r ∷ [])
ranks_more g z j before [] r ranks is = (is, tt)
ranks_more g z j before (q ∷ qs) r ranks is = (ranks.0, ranks_more g z j q.set qs r ranks.1 is)

last_ranked_more : (before : StateSet) (rs : List RankedSet) (r : RankedSet) → last_ranked before (rs ++ r ∷ []) ≡ r.set
last_ranked_more before [] r = refl
last_ranked_more before (q ∷ qs) r = last_ranked_more q.set qs r

-- a chain for one more condition
pub chains_more : {g : Game} {a b c : Ids} {z y : StateSet} {j i : ℕ} {chains : List Chain} {w : Waited} →
    AreChains g a z y j i chains → IsWaited g b z y j i w → Extends a b → Extends b c →
    AreChains g c z y j (i + 1) (chains ++ w.chain ∷ [])
chains_more {g = g} {a = a} {b = b} {c = c} {z = z} {y = y} {j = j} {i = i} {chains = chains} {w = w} far waited ab bc =
    let ac : Extends a c = extends_then ab bc in
    record {
      known = each_more (KnowsChain c) chains w.chain (chains_known ac chains far.known)
          (chain_known bc w.chain waited.chain_known);
      many = length_more chains w.chain ∙ ap (λ n. n + 1) far.many;
      each = λ k sets got. at ac k sets (seen_more (chain_sets c) chains w.chain k sets got);
    }
  where
    at : Extends a c → (k : ℕ) (sets : List StateSet) →
        (slice_get (map (chain_sets c) chains) k ≡ Some sets) ⊎ ((k ≡ length chains) × (chain_sets c w.chain ≡ sets)) →
        IsChain g z y j k sets
    at ac k sets (inl got) =
        far.each k sets (subst (λ (l : List (List StateSet)). slice_get l k ≡ Some sets)
        (chains_stay ac chains far.known) got)
    at ac k sets (inr new) =
        subst (λ (n : ℕ). IsChain g z y j n sets) (sym (new.0 ∙ far.many))
        (subst (λ (l : List StateSet). IsChain g z y j i l)
        (sym (chain_stays bc w.chain waited.chain_known) ∙ new.1) waited.chain)

module _ (g : Game) (mono : IsMonotone g) (z y : StateSet) (j i : ℕ) where
  -- the union with the states that wait for one more condition
  turn_goes_on : {a b c : Ids} (set grown : NodeId) (chains : List Chain) (w : Waited) →
      TurnsSoFar g a z y j i set chains → IsWaited g b z y j i w → i < g.fairs → Extends a b → Extends b c →
      Is g.states c grown (λ s. b.means set s || b.means w.set s) →
      TurnsSoFar g c z y j (i + 1) grown (chains ++ w.chain ∷ [])
  turn_goes_on {a = a} {b = b} {c = c} set grown chains w far waited below ab bc is = record {
    known = is.known;
    only = λ s among here. from s among
        (or_cases (b.means set s) (b.means w.set s) (sym (is.means.same s among) ∙ here));
    holds = record {
      within = λ s among here. is.means.same s among
          ∙ or_left (b.means set s) (b.means w.set s) (to_set s (far.holds.within s among here));
    };
    all = λ k less s among stay. is.means.same s among ∙ new s among k (cases k less) stay;
    each = chains_more far.each waited ab bc;
  }
    where
      to_set : (s : StateData) → a.means set s ≡ true → b.means set s ≡ true
      to_set s here = subst (λ (m : StateSet). m s ≡ true) (sym (ab.same set far.known)) here

      from_set : (s : StateData) → b.means set s ≡ true → a.means set s ≡ true
      from_set s here = subst (λ (m : StateSet). m s ≡ true) (ab.same set far.known) here

      from : (s : StateData) → IsAmong s g.states → (b.means set s ≡ true) ⊎ (b.means w.set s ≡ true) →
          (y s ≡ true) ⊎ InSome g z y j s
      from s among (inl here) = far.only s among (from_set s here)
      from s among (inr here) = inr (i, below, waited.set.only s among here)

      cases : (k : ℕ) → k < i + 1 → (k < i) ⊎ (k ≡ i)
      cases k less = grind arith

      new : (s : StateData) → IsAmong s g.states → (k : ℕ) → (k < i) ⊎ (k ≡ i) → InStay g z y j k s →
          (b.means set s || b.means w.set s) ≡ true
      new s among k (inl less) stay = or_left _ _ (to_set s (far.all k less s among stay))
      new s among k (inr e) stay =
          or_right _ _ (waited.set.all s among (subst (λ (n : ℕ). InStay g z y j n s) e stay))

  -- the union with the states that wait for one more condition, where a push left the list of chains
  pub turn_continues : {a b c : Ids} (set grown : NodeId) (chains more : List Chain) (w : Waited) →
      TurnsSoFar g a z y j i set chains → IsWaited g b z y j i w → i < g.fairs → Extends a b → Extends b c →
      Is g.states c grown (λ s. b.means set s || b.means w.set s) → more ≡ chains ++ w.chain ∷ [] →
      TurnsSoFar g c z y j (i + 1) grown more
  turn_continues {c = c} set grown chains more w far waited below ab bc is pushed =
      subst (λ (l : List Chain). TurnsSoFar g c z y j (i + 1) grown l) (sym pushed)
      (turn_goes_on set grown chains w far waited below ab bc is)

  -- where the union grew it is a ranked set
  pub rank_added : {a b c : Ids} (set grown : NodeId) (chains : List Chain) (w : Waited) (old new : List RankSet) →
      TurnsSoFar g a z y j i set chains → IsRanked g a z j set old → IsWaited g b z y j i w → i < g.fairs →
      Extends a b → Extends b c → IsExact g.states c →
      Is g.states c grown (λ s. b.means set s || b.means w.set s) → AddsRank set i grown old new →
      IsRanked g c z j grown new
  rank_added {a = a} {b = b} {c = c} set grown chains w old new far ranked waited below ab bc exact is (inl same) =
      let ac : Extends a c = extends_then ab bc in
      subst (λ (l : List RankSet). IsRanked g c z j grown l) (sym same.1)
      (subst (λ (id : NodeId). IsRanked g c z j id old) (sym same.0) (record {
        known = ranks_known ac old ranked.known;
        ranks = subst (λ (l : List RankedSet). AreRanks g z j nowhere l) (sym (ranks_stay ac old ranked.known))
            ranked.ranks;
        last = subst (λ (m : StateSet). IsSame g.states (last_ranked nowhere (map (ranked_set c) old)) m)
            (sym (ac.same set far.known))
            (subst (λ (l : List RankedSet). IsSame g.states (last_ranked nowhere l) (a.means set))
            (sym (ranks_stay ac old ranked.known)) ranked.last);
      }))
  rank_added {a = a} {b = b} {c = c} set grown chains w old new far ranked waited below ab bc exact is (inr more) =
      let ac : Extends a c = extends_then ab bc in
      let r : RankSet = record { fair = i; set = grown } in
      let seen : List RankedSet = map (ranked_set a) old in
      let e : map (ranked_set c) (old ++ r ∷ []) ≡ seen ++ ranked_set c r ∷ [] =
      map_more (ranked_set c) old r ∙ ap (λ l. l ++ ranked_set c r ∷ []) (ranks_stay ac old ranked.known) in
      let last : StateSet = last_ranked nowhere seen in
      let same_set : IsSame g.states last (b.means set) =
      subst (λ (m : StateSet). IsSame g.states last m) (sym (ab.same set far.known)) ranked.last in
      let up : IsWithin g.states (b.means set) (c.means grown) =
      record { within = λ s among here. is.means.same s among ∙ or_left _ (b.means w.set s) here } in
      let up_c : IsWithin g.states (c.means set) (c.means grown) =
      subst (λ (m : StateSet). IsWithin g.states m (c.means grown))
      (sym (ac.same set far.known ∙ sym (ab.same set far.known))) up in
      let gains : Gains g.states (c.means set) (c.means grown) =
      other_gains set grown exact (ac.known set far.known) is.known (λ q. more.0 (sym q)) up_c in
      let gone : last gains.state ≡ false =
      ranked.last.same gains.state gains.listed
      ∙ subst (λ (m : StateSet). m gains.state ≡ false) (ac.same set far.known) gains.without_it in
      let in_last : IsWithin g.states y last =
      within_then far.holds (same_within (same_back ranked.last)) in
      let is_rank : IsRank g z j last (ranked_set c r) = record {
        fair = below;
        grows = within_then (same_within same_set) up;
        gains = record { state = gains.state; listed = gains.listed; without_it = gone; with_it = gains.with_it };
        reached = λ s among out here. reached s among
            (waited.set.only s among (or_second (b.means set s) (b.means w.set s)
            (sym (is.means.same s among) ∙ here) (sym (same_set.same s among) ∙ out))) last in_last;
      } in
      subst (λ (l : List RankSet). IsRanked g c z j grown l) (sym more.1) (record {
        known = each_more (λ (q : RankSet). c.knows q.set) old r (ranks_known ac old ranked.known) is.known;
        ranks = subst (λ (l : List RankedSet). AreRanks g z j nowhere l) (sym e)
            (ranks_more g z j nowhere seen (ranked_set c r) ranked.ranks is_rank);
        last = subst (λ (m : StateSet). IsSame g.states m (c.means grown))
            (sym (ap (last_ranked nowhere) e ∙ last_ranked_more nowhere seen (ranked_set c r)))
            (record { same = λ s among. refl });
      })
    where
      reached : (s : StateData) → IsAmong s g.states → InStay g z y j i s → (last : StateSet) →
          IsWithin g.states y last → g.part z last (c.means grown) j i s ≡ true
      reached s among stay last in_last =
          let w : IsWithin g.states stay.set (c.means grown) = record {
            within = λ t in_n here. is.means.same t in_n
                ∙ or_right (b.means set t) _ (waited.set.all t in_n (record {
                  set = stay.set;
                  holds =
                      stay.holds;
                  here = here;
                }));
          } in
          (mono.rises z z y last stay.set (c.means grown) j i (within_here _ _) in_last w).within s among
          (stay.holds s among stay.here)

-- after the last condition
pub turn_ends : {g : Game} {ids : Ids} {z y : StateSet} {j i : ℕ} {set : NodeId} {chains : List Chain} (t : Turned) →
    TurnsSoFar g ids z y j i set chains → i ≡ g.fairs → t.set ≡ set → t.chains.items ≡ chains → IsTurned g ids z y j t
turn_ends {g = g} {ids = ids} {z = z} {y = y} {j = j} {i = i} {set = set} {chains = chains} t far end set_is
    chains_are = record {
      known = subst ids.knows (sym set_is) far.known;
      set = subst (λ (id : NodeId). Holds g.states (ids.means id) (λ s. (y s ≡ true) ⊎ InSome g z y j s)) (sym set_is)
          (record { only = far.only; all = λ s among. at s among });
      chains = subst (λ (l : List Chain). AreChains g ids z y j g.fairs l) (sym chains_are)
          (subst (λ (n : ℕ). AreChains g ids z y j n chains) end far.each);
    }
  where
    at : (s : StateData) → IsAmong s g.states → (y s ≡ true) ⊎ InSome g z y j s → ids.means set s ≡ true
    at s among (inl here) = far.holds.within s among here
    at s among (inr (k, below, stay)) = far.all k (omega arith) s among stay
