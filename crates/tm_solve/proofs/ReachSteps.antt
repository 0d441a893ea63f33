-- The loop that seeks a least fixpoint over Y.
use Rattle.std.proofs.Common.{◌≡◌, ◌≢◌, ◌⊎◌, inl, inr, ℕ, ◌-◌, ◌<◌, true, List, map, length, slice_get, Some, sym, ap, ◌∙◌, subst, arith}
use Rattle.tm_dd.specs.declared.node.NodeId.{NodeId}
use Rattle.tm_sem.specs.State.{StateData}
use Rattle.tm_sem.specs.Certificates.{nowhere}
use Rattle.tm_solve.specs.declared.iterates.RankSet.{RankSet}
use Rattle.tm_solve.specs.declared.iterates.Chain.{Chain}
use Rattle.tm_solve.specs.declared.turns.Turned.{Turned}
use Rattle.tm_solve.specs.declared.goals.Reached.{Reached}
use Rattle.tm_solve.specs.Sets.{StateSet, outside, common, IsAmong, IsWithin, IsSame, Gains, count}
use Rattle.tm_solve.specs.Game.{Game, IsMonotone, IsAbsorbing}
use Rattle.tm_solve.specs.Narrowed.{narrowed}
use Rattle.tm_solve.specs.Ids.{Ids, IsExact, Extends}
use Rattle.tm_solve.specs.Fixpoints.{InStay, InSome, InReach, Holds}
use Rattle.tm_solve.specs.Levels.{last_link}
use Rattle.tm_solve.specs.Iterates.{chain_sets}
use Rattle.tm_solve.specs.Inner.Waits.{IsChain}
use Rattle.tm_solve.specs.Inner.Turns.{IsRanked, IsTurned}
use Rattle.tm_solve.specs.Inner.Goals.{LeadsOut, LeadOut, IsReached, ReachSoFar}
use Rattle.tm_solve.proofs.Sets.{within_here, both_same, count_gains, count_most}
use Rattle.tm_solve.proofs.Following.{other_gains}
use Rattle.tm_solve.proofs.Items.{get_below, length_mapped}
use Rattle.tm_solve.proofs.Fixed.{stay_rises, some_rises, stay_of}

-- what a turn answers, said of the game and the sets of the start
pub turned_at : (g h : Game) (ids : Ids) (zs zm y : StateSet) (j : ℕ) (t : Turned) → h ≡ g → zm ≡ zs →
    IsTurned (narrowed h zm) ids zm y j t → IsTurned (narrowed g zs) ids zs y j t
turned_at g h ids zs zm y j t same_game same_z is =
    subst (λ (q : Game). IsTurned (narrowed q zs) ids zs y j t) same_game
    (subst (λ (v : StateSet). IsTurned (narrowed h v) ids v y j t) same_z is)

pub ranked_at : (g h : Game) (ids : Ids) (zs zm : StateSet) (j : ℕ) (y : NodeId) (items : List RankSet) → h ≡ g →
    zm ≡ zs →
    IsRanked (narrowed h zm) ids zm j y items → IsRanked (narrowed g zs) ids zs j y items
ranked_at g h ids zs zm j y items same_game same_z is =
    subst (λ (q : Game). IsRanked (narrowed q zs) ids zs j y items) same_game
    (subst (λ (v : StateSet). IsRanked (narrowed h v) ids v j y items) same_z is)

module _ (g : Game) (mono : IsMonotone g) (z : StateSet) (j : ℕ) where
  -- what waits over a set that reaches the goal reaches it
  pub some_reaches : (y : StateSet) → ((s : StateData) → IsAmong s g.states → y s ≡ true → InReach g z j s) →
      (s : StateData) → IsAmong s g.states → InSome g z y j s → InReach g z j s
  some_reaches y below s among some = record {
    every = λ f closed.
        let w : IsWithin g.states y f = record { within = λ t in_n here. (below t in_n here).every f closed } in
        closed s among (some_rises g mono z z y f j (within_here _ _) w s some);
  }

  pub reach_goes_on : {a b : Ids} (y : NodeId) (t : Turned) → ReachSoFar g a z j y → IsTurned g b z (a.means y) j t →
      ReachSoFar g b z j t.set
  reach_goes_on {a = a} {b = b} y t far turned = record {
    known = turned.known;
    below = λ s among here. at s among (turned.set.only s among here);
  }
    where
      at : (s : StateData) → IsAmong s g.states → (a.means y s ≡ true) ⊎ InSome g z (a.means y) j s → InReach g z j s
      at s among (inl here) = far.below s among here
      at s among (inr some) = some_reaches (a.means y) far.below s among some

  -- another iterate has more states
  pub reach_grows : {a b : Ids} (y : NodeId) (t : Turned) → ReachSoFar g a z j y → IsTurned g b z (a.means y) j t →
      Extends a b → IsExact g.states b → t.set ≢ y →
      length g.states - count g.states (b.means t.set) < length g.states - count g.states (a.means y)
  reach_grows {a = a} {b = b} y t far turned ab exact differ =
      let w : IsWithin g.states (a.means y) (b.means t.set) =
      record { within = λ s among here. turned.set.all s among (inl here) } in
      let e : b.means y ≡ a.means y = ab.same y far.known in
      let w' : IsWithin g.states (b.means y) (b.means t.set) =
      subst (λ (m : StateSet). IsWithin g.states m (b.means t.set)) (sym e) w in
      let gains : Gains g.states (b.means y) (b.means t.set) =
      other_gains y t.set exact (ab.known y far.known) turned.known (λ q. differ (sym q)) w' in
      let more : count g.states (a.means y) < count g.states (b.means t.set) =
      subst (λ (m : StateSet). count g.states m < count g.states (b.means t.set)) e
      (count_gains g.states (b.means y) (b.means t.set) w' gains) in
      let most = count_most g.states (b.means t.set) in
      omega arith

  module _ (absorb : IsAbsorbing g) where
    -- at the fixpoint each condition is waited for in all of it
    chain_ends : (y x : StateSet) (i : ℕ) → ((s : StateData) → IsAmong s g.states → y s ≡ true → InReach g z j s) →
        ((s : StateData) → IsAmong s g.states → InSome g z y j s → y s ≡ true) → i < g.fairs →
        Holds g.states x (InStay g z y j i) → IsSame g.states x y
    chain_ends y x i below closed less holds =
        let up : IsWithin g.states x y =
        record { within = λ s among here. closed s among (i, less, holds.only s among here) } in
        both_same up (record {
          within =
              λ s among here. (below s among here).every x (λ t in_n some. at up t in_n some);
        })
      where
        at : IsWithin g.states x y → (t : StateData) → IsAmong t g.states → InSome g z x j t → x t ≡ true
        at up t in_n (k, below_k, stay) =
            let over : InStay g z y j k t = stay_rises g mono z z x y j k (within_here _ _) up t stay in
            let w : IsWithin g.states over.set y = record {
              within = λ u u_in here. closed u u_in
                  (k, below_k, record { set = over.set; holds = over.holds; here = here });
            } in
            holds.all t in_n (stay_of g z y over.set j i (record {
              within = λ u u_in here.
                  (absorb.wait z y over.set over.set j k i w).within u u_in (over.holds u u_in here);
            }) t over.here)

    -- an iterate that stays as it was is the fixpoint
    pub reach_ends : {a b : Ids} (y : NodeId) (t : Turned) (items : List RankSet) (r : Reached) → ReachSoFar g a z j y →
        IsTurned g b z (a.means y) j t → IsRanked g b z j t.set items → Extends a b → t.set ≡ y → r.set ≡ y →
        r.ranks.sets.items ≡ items → r.chains.items ≡ t.chains.items → IsReached g b z j r
    reach_ends {a = a} {b = b} y t items r far turned ranked ab same_id set_is items_are chains_are =
        let e : b.means y ≡ a.means y = ab.same y far.known in
        let closed : (s : StateData) → IsAmong s g.states → InSome g z (a.means y) j s → a.means y s ≡ true =
        λ s among some. subst (λ (m : StateSet). m s ≡ true) (ap b.means same_id ∙ e)
        (turned.set.all s among (inr some)) in
        let by : b.means r.set ≡ a.means y = ap b.means set_is ∙ e in
        record {
          known = subst b.knows (sym set_is) (ab.known y far.known);
          set = subst (λ (m : StateSet). Holds g.states m (InReach g z j)) (sym by) (record {
            only = far.below;
            all = λ s among reach. reach.every (a.means y) closed;
          });
          ranked = subst (λ (l : List RankSet). IsRanked g b z j r.set l) (sym items_are)
              (subst (λ (id : NodeId). IsRanked g b z j id items) (same_id ∙ sym set_is) ranked);
          chains = subst (λ (m : StateSet). LeadOut g b z m j r.chains.items) (sym by)
              (subst (λ (l : List Chain). LeadOut g b z (a.means y) j l) (sym chains_are) (record {
                known = turned.chains.known;
                many = turned.chains.many;
                each = λ i sets got. at closed i sets got (turned.chains.each i sets got);
              }));
        }
      where
        at : ((s : StateData) → IsAmong s g.states → InSome g z (a.means y) j s → a.means y s ≡ true) → (i : ℕ)
            (sets : List StateSet) → slice_get (map (chain_sets b) t.chains.items) i ≡ Some sets →
            IsChain g z (a.means y) j i sets → LeadsOut g z (a.means y) j i sets
        at closed i sets got chain =
            let less = get_below (map (chain_sets b) t.chains.items) i sets got in
            let many = length_mapped (chain_sets b) t.chains.items in
            let below_fairs : i < g.fairs = omega (arith, turned.chains.many) in
            record {
              links = chain.links;
              ends = chain_ends (a.means y) (common (outside (last_link nowhere sets)) z) i far.below closed below_fairs
                  chain.stays;
            }
