-- The loop over the goals of one round.
use Rattle.std.proofs.Common.{◌≡◌, ◌≢◌, ◌⊎◌, inl, inr, ℕ, ◌+◌, ◌<◌, Bool, true, false, not, ◌&&◌, List, [], ◌∷◌, ◌++◌, map, length, slice_get, Some, refl, sym, ap, ◌∙◌, subst, arith}
use Rattle.tm_dd.specs.declared.node.NodeId.{NodeId}
use Rattle.tm_sem.specs.State.{StateData}
use Rattle.tm_sem.specs.Certificates.{RankedSet, Level, nowhere}
use Rattle.tm_solve.specs.declared.iterates.Chain.{Chain}
use Rattle.tm_solve.specs.declared.iterates.LevelSet.{LevelSet}
use Rattle.tm_solve.specs.declared.iterates.Ranking.{Ranking}
use Rattle.tm_solve.specs.declared.goals.Reached.{Reached}
use Rattle.tm_solve.specs.declared.rounds.Remaining.{Remaining}
use Rattle.tm_solve.specs.Sets.{StateSet, outside, common, everywhere, IsAmong, IsWithin, IsSame, Gains}
use Rattle.tm_solve.specs.Game.{Game, IsMonotone}
use Rattle.tm_solve.specs.Narrowed.{narrowed}
use Rattle.tm_solve.specs.Ids.{Ids, Is, IsExact, Extends}
use Rattle.tm_solve.specs.Fixpoints.{InReach, Holds}
use Rattle.tm_solve.specs.Levels.{AreLinks, last_link, ChainFits, IsLevel, AreLevels, last_of_levels}
use Rattle.tm_solve.specs.Iterates.{Each, KnowsChain, KnowsRanks, KnowsLevel, chain_sets, ranked_sets, level_of}
use Rattle.tm_solve.specs.Inner.Goals.{LeadsOut, LeadOut, IsReached}
use Rattle.tm_solve.specs.Inner.Rounds.{IsLeveled, AddsLevel, RanksReach, AreReached, RoundSoFar, IsRemaining}
use Rattle.tm_solve.proofs.Sets.{within_then, same_then, same_back, same_within, outside_within, outside_same, outside_twice, not_true, not_false}
use Rattle.tm_solve.proofs.Following.{other_gains, extends_then, is_at}
use Rattle.tm_solve.proofs.Items.{map_more, each_more, length_more, length_mapped, seen_more}
use Rattle.tm_solve.proofs.Views.{chains_stay, chains_known, ranks_stay, ranks_known, rankings_stay, rankings_known, levels_stay, levels_known}
use Rattle.tm_solve.proofs.WaitSteps.{removed_is}
use Rattle.tm_solve.proofs.Joins.{and_left, and_right, and_both}

-- what a goal's search answers, said of the game and the set of the start
pub reached_at : (g h : Game) (ids : Ids) (zs zm : StateSet) (j : ℕ) (r : Reached) → h ≡ g → zm ≡ zs →
    IsReached (narrowed h zm) ids zm j r → IsReached (narrowed g zs) ids zs j r
reached_at g h ids zs zm j r same_game same_z is =
    subst (λ (q : Game). IsReached (narrowed q zs) ids zs j r) same_game
    (subst (λ (v : StateSet). IsReached (narrowed h v) ids v j r) same_z is)

pub removed_at : (g h : Game) (ids : Ids) (region : NodeId) (j : ℕ) (chains : List Chain) (left : NodeId)
    (old new : List LevelSet) → h ≡ g → AddsLevel h.states ids region j chains left old new →
    AddsLevel g.states ids region j chains left old new
removed_at g h ids region j chains left old new same_game is =
    subst (λ (q : Game). AddsLevel q.states ids region j chains left old new) same_game is

-- one goal more is reached from what is left
pub round_goes_on : {g : Game} {a b c : Ids} {z : StateSet} {j : ℕ} (region left : NodeId) (r : Reached) →
    RoundSoFar g a z j region → IsReached g b z j r → Extends a b → Extends b c →
    Is g.states c left (λ s. b.means region s && b.means r.set s) → RoundSoFar g c z (j + 1) left
round_goes_on {g = g} {a = a} {b = b} {c = c} {z = z} {j = j} region left r far reached ab bc is = record {
  known = is.known;
  set = record {
    only = λ s among here.
        let both : (b.means region s && b.means r.set s) ≡ true = sym (is.means.same s among) ∙ here in
        let before = far.set.only s among (subst (λ (m : StateSet). m s ≡ true) (ab.same region far.known)
        (and_left _ _ both)) in
        (before.0, λ k less. at s k (cases k less) before.1 (reached.set.only s among (and_right _ _ both)));
    all = λ s among both. is.means.same s among ∙ and_both _ _
        (subst (λ (m : StateSet). m s ≡ true) (sym (ab.same region far.known))
        (far.set.all s among (both.0, λ k less. both.1 k (omega arith))))
        (reached.set.all s among (both.1 j (omega arith)));
  };
}
  where
    cases : (k : ℕ) → k < j + 1 → (k < j) ⊎ (k ≡ j)
    cases k less = grind arith

    at : (s : StateData) (k : ℕ) → (k < j) ⊎ (k ≡ j) → ((m : ℕ) → m < j → InReach g z m s) → InReach g z j s →
        InReach g z k s
    at s k (inl less) before now = before k less
    at s k (inr e) before now = subst (λ (n : ℕ). InReach g z n s) (sym e) now

-- the ranked sets of one goal more
pub reached_more : {g : Game} {a b c : Ids} {z : StateSet} {j : ℕ} (items more : List Ranking) (r : Reached) →
    AreReached g a z j items → IsReached g b z j r → Extends a b → Extends b c → more ≡ items ++ r.ranks ∷ [] →
    AreReached g c z (j + 1) more
reached_more {g = g} {a = a} {b = b} {c = c} {z = z} {j = j} items more r far reached ab bc pushed =
    let ac : Extends a c = extends_then ab bc in
    subst (λ (l : List Ranking). AreReached g c z (j + 1) l) (sym pushed) (record {
      known = each_more (λ (q : Ranking). KnowsRanks c q.sets.items) items r.ranks (rankings_known ac items far.known)
          (ranks_known bc r.ranks.sets.items reached.ranked.known);
      many = length_more items r.ranks ∙ ap (λ n. n + 1) far.many;
      each = λ k ranked got. at ac k ranked (seen_more (ranked_sets c) items r.ranks k ranked got);
    })
  where
    same_last : (last : StateSet) → IsSame g.states last (b.means r.set) → Holds g.states last (InReach g z j)
    same_last last e = record {
      only = λ s among here. reached.set.only s among (sym (e.same s among) ∙ here);
      all = λ s among reach. e.same s among ∙ reached.set.all s among reach;
    }

    new : RanksReach g z j (ranked_sets b r.ranks)
    new = record { ranks = reached.ranked.ranks; last = same_last _ reached.ranked.last }

    at : Extends a c → (k : ℕ) (ranked : List RankedSet) →
        (slice_get (map (ranked_sets c) items) k ≡ Some ranked) ⊎
        ((k ≡ length items) × (ranked_sets c r.ranks ≡ ranked)) →
        RanksReach g z k ranked
    at ac k ranked (inl got) =
        far.each k ranked (subst (λ (l : List (List RankedSet)). slice_get l k ≡ Some ranked)
        (rankings_stay ac items far.known) got)
    at ac k ranked (inr is) =
        subst (λ (n : ℕ). RanksReach g z n ranked) (sym (is.0 ∙ far.many))
        (subst (λ (l : List RankedSet). RanksReach g z j l)
        (sym (ranks_stay bc r.ranks.sets.items reached.ranked.known) ∙ is.1) new)

-- what leads on over greater sets does over smaller ones, in fewer states
links_lower : (g : Game) → IsMonotone g → (z z' y y' : StateSet) (j i : ℕ) (before : StateSet) (cs : List StateSet) →
    IsWithin g.states z' z → IsWithin g.states y' y → AreLinks (narrowed g z) z y j i before cs →
    AreLinks (narrowed g z') z' y' j i before cs
links_lower g mono z z' y y' j i before [] v w links = tt
links_lower g mono z z' y y' j i before (c ∷ cs) v w links = (
  (
    links.0.0,
    record {
      within = λ s among here. links.0.1.within s among (and_both (g.part z y (common (outside before) z) j i s) (z s)
          ((mono.rises z' z y' y (common (outside before) z') (common (outside before) z) j i v w
          (common_within before)).within s among
          (and_left (g.part z' y' (common (outside before) z') j i s) (z' s) here))
          (v.within s among (and_right (g.part z' y' (common (outside before) z') j i s) (z' s) here)));
    },
  ),
  links_lower g mono z z' y y' j i c cs v w links.1,
)
  where
    common_within : (a : StateSet) → IsWithin g.states (common (outside a) z') (common (outside a) z)
    common_within a = record {
      within = λ s among here. and_both (outside a s) (z s) (and_left (outside a s) (z' s) here)
          (v.within s among (and_right (outside a s) (z' s) here));
    }

some_link : (cs : List StateSet) (s : StateData) → last_link nowhere cs s ≡ true → 0 < length cs
some_link [] s e = cc
some_link (c ∷ cs) s e = omega arith

levels_more : (g : Game) (before : StateSet) (ls : List Level) (l : Level) → AreLevels g before ls →
    IsLevel g (last_of_levels before ls) l → AreLevels g before (ls ++ l ∷ [])
levels_more g before [] l levels is = (is, tt)
levels_more g before (k ∷ ks) l levels is = (levels.0, levels_more g k.set ks l levels.1 is)

last_level_more : (before : StateSet) (ls : List Level) (l : Level) → last_of_levels before (ls ++ l ∷ []) ≡ l.set
last_level_more before [] l = refl
last_level_more before (k ∷ ks) l = last_level_more k.set ks l

-- levels stay where ids do
pub leveled_stays : {g : Game} {a c : Ids} (region : NodeId) (items : List LevelSet) → Extends a c → a.knows region →
    IsLeveled g a region items → IsLeveled g c region items
leveled_stays {g = g} {a = a} {c = c} region items ac known leveled = record {
  known = levels_known ac items leveled.known;
  levels = subst (λ (l : List Level). AreLevels g nowhere l) (sym (levels_stay ac items leveled.known))
      leveled.levels;
  last = subst (λ (m : StateSet). IsSame g.states (last_of_levels nowhere (map (level_of c) items)) (outside m))
      (sym (ac.same region known))
      (subst (λ (l : List Level). IsSame g.states (last_of_levels nowhere l) (outside (a.means region)))
      (sym (levels_stay ac items leveled.known)) leveled.last);
}

module _ (g : Game) (mono : IsMonotone g) (z : StateSet) (j : ℕ) where
  -- a chain of a goal's last turn fits a level that the goal removes
  chain_fits : (before y region left : StateSet) (i : ℕ) (l : Level) (chain : List StateSet) →
      IsSame g.states before (outside region) → IsSame g.states l.set (outside left) → l.goal ≡ j →
      IsWithin g.states region z → IsWithin g.states left y →
      ((s : StateData) → IsAmong s g.states → region s ≡ true → left s ≡ false → y s ≡ false) →
      Gains g.states before l.set → LeadsOut (narrowed g z) z y j i chain → ChainFits g before l i chain
  chain_fits before y region left i l chain same_before same_left goal in_z in_y gone gains out =
      let z_in : IsWithin g.states (outside before) z =
      within_then (same_within (same_then (outside_same same_before) (outside_twice _ _))) in_z in
      let y_in : IsWithin g.states (outside l.set) y =
      within_then (same_within (same_then (outside_same same_left) (outside_twice _ _))) in_y in
      let in_last : IsWithin g.states left (outside (last_link nowhere chain)) = record {
        within = λ s among here. and_left (outside (last_link nowhere chain) s) (z s)
            (out.ends.same s among ∙ in_y.within s among here);
      } in
      let ends : (s : StateData) → IsAmong s g.states → before s ≡ false → l.set s ≡ true →
      last_link nowhere chain s ≡ true = λ s among old new.
      let here : region s ≡ true = held (region s) (sym (same_before.same s among) ∙ old) in
      lost (last_link nowhere chain s) (z s) (out.ends.same s among ∙ gone s among here
      (not_false _ (sym (same_left.same s among) ∙ new))) (in_z.within s among here) in
      record {
        some = some_link chain gains.state (ends gains.state gains.listed gains.without_it gains.with_it);
        links = subst (λ (n : ℕ). AreLinks (narrowed g (outside before)) (outside before) (outside l.set) n i nowhere
            chain) (sym goal)
            (links_lower g mono z (outside before) y (outside l.set) j i nowhere chain z_in y_in out.links);
        inside = within_then (same_within (same_back (outside_twice _ _)))
            (within_then (outside_within in_last) (same_within (same_back same_left)));
        ends = ends;
      }
    where
      lost : (b q : Bool) → (not b && q) ≡ false → q ≡ true → b ≡ true
      lost true q e here = refl
      lost false q e here = sym e ∙ here

      held : (b : Bool) → not b ≡ false → b ≡ true
      held true e = refl
      held false e = sym e

  -- the levels stay where a goal loses no state, and else there is one more
  pub level_added : {a b c : Ids} (region left set : NodeId) (chains : List Chain) (old new : List LevelSet) →
      j < g.goals → a.knows region → IsWithin g.states (a.means region) z → IsLeveled g a region old →
      LeadOut (narrowed g z) b z (b.means set) j chains → Extends a b → Extends b c → IsExact g.states c →
      Is g.states c left (λ s. b.means region s && b.means set s) → AddsLevel g.states c region j chains left old new →
      IsLeveled g c left new
  level_added {a = a} {b = b} {c = c} region left set chains old new below known in_z leveled out ab bc exact is
      (inl same) =
      subst (λ (l : List LevelSet). IsLeveled g c left l) (sym same.1)
      (subst (λ (id : NodeId). IsLeveled g c id old) (sym same.0)
      (leveled_stays region old (extends_then ab bc) known leveled))
  level_added {a = a} {b = b} {c = c} region left set chains old new below known in_z leveled out ab bc exact is
      (inr more) =
      let ac : Extends a c = extends_then ab bc in
      let l : LevelSet = more.1 in
      let removed = more.2 in
      let seen : List Level = map (level_of a) old in
      let e : map (level_of c) (old ++ l ∷ []) ≡ seen ++ level_of c l ∷ [] =
      map_more (level_of c) old l ∙ ap (λ m. m ++ level_of c l ∷ []) (levels_stay ac old leveled.known) in
      let R : StateSet = a.means region in
      let L : StateSet = c.means left in
      let Y : StateSet = b.means set in
      let is_left : (s : StateData) → IsAmong s g.states → L s ≡ (R s && Y s) = λ s among.
      is.means.same s among ∙ ap (λ (m : StateSet). m s && Y s) (ab.same region known) in
      let in_region : IsWithin g.states L R =
      record { within = λ s among here. and_left _ _ (sym (is_left s among) ∙ here) } in
      let in_y : IsWithin g.states L Y =
      record { within = λ s among here. and_right _ _ (sym (is_left s among) ∙ here) } in
      let in_region_c : IsWithin g.states L (c.means region) =
      subst (λ (m : StateSet). IsWithin g.states L m) (sym (ac.same region known)) in_region in
      let lost : Gains g.states L (c.means region) =
      other_gains left region exact is.known (ac.known region known) more.0 in_region_c in
      let last : StateSet = last_of_levels nowhere seen in
      let same_set : IsSame g.states (c.means l.set) (outside L) = removed.set.means in
      let gains : Gains g.states last (c.means l.set) = record {
        state = lost.state;
        listed = lost.listed;
        without_it = leveled.last.same lost.state lost.listed
            ∙ ap not (subst (λ (m : StateSet). m lost.state ≡ true) (ac.same region known) lost.with_it);
        with_it = same_set.same lost.state lost.listed ∙ not_true _ lost.without_it;
      } in
      let gone : (s : StateData) → IsAmong s g.states → R s ≡ true → L s ≡ false → Y s ≡ false = λ s among inside out.
      second (R s) (Y s) (sym (is_left s among) ∙ out) inside in
      let chains_are : l.chains.items ≡ chains = removed.keeps in
      let seen_chains : map (chain_sets c) l.chains.items ≡ map (chain_sets b) chains =
      ap (map (chain_sets c)) chains_are ∙ chains_stay bc chains out.known in
      let is_level : IsLevel g last (level_of c l) = record {
        goal = subst (λ (n : ℕ). n < g.goals) (sym removed.for_goal) below;
        grows = within_then (same_within leveled.last)
            (within_then (outside_within in_region) (same_within (same_back same_set)));
        gains = gains;
        count = length_mapped (chain_sets c) l.chains.items ∙ ap length chains_are ∙ out.many;
        chains = λ i chain got. chain_fits last Y R L i (level_of c l) chain leveled.last same_set removed.for_goal
            in_z in_y
            gone gains (out.each i chain
            (subst (λ (m : List (List StateSet)). slice_get m i ≡ Some chain) seen_chains got));
      } in
      subst (λ (m : List LevelSet). IsLeveled g c left m) (sym more.3) (record {
        known = each_more (KnowsLevel c) old l (levels_known ac old leveled.known) (
          removed.set.known,
          subst (λ (m : List Chain). Each (KnowsChain c) m) (sym chains_are)
              (chains_known bc chains out.known),
        );
        levels = subst (λ (m : List Level). AreLevels g nowhere m) (sym e)
            (levels_more g nowhere seen (level_of c l) leveled.levels is_level);
        last = subst (λ (m : StateSet). IsSame g.states m (outside L))
            (sym (ap (last_of_levels nowhere) e ∙ last_level_more nowhere seen (level_of c l))) same_set;
      })
    where
      second : (p q : Bool) → (p && q) ≡ false → p ≡ true → q ≡ false
      second true q e h = e
      second false q e h = cc

-- after the last goal
pub round_ends : {g : Game} {ids : Ids} {z : StateSet} {j : ℕ} {region : NodeId} {items : List Ranking} (r : Remaining)
    →
    RoundSoFar g ids z j region → AreReached g ids z j items → j ≡ g.goals → r.region ≡ region → r.ranks.items ≡ items →
    IsRemaining g ids z r
round_ends {g = g} {ids = ids} {z = z} {j = j} {region = region} {items = items} r far reached end region_is
    ranks_are = record {
      region = subst (λ (id : NodeId). RoundSoFar g ids z g.goals id) (sym region_is)
          (subst (λ (n : ℕ). RoundSoFar g ids z n region) end far);
      ranks = subst (λ (l : List Ranking). AreReached g ids z g.goals l) (sym ranks_are)
          (subst (λ (n : ℕ). AreReached g ids z n items) end reached);
    }

-- the level that is added is all that is outside what is left
pub level_pushed : (g h : Game) (b c : Ids) (region left whole removed : NodeId) (j : ℕ) (chains : List Chain)
    (old new : List LevelSet) (l : LevelSet) → h ≡ g → left ≢ region → b.knows left → Is h.states b whole everywhere →
    Is h.states c removed (λ s. b.means whole s && not (b.means left s)) → Extends b c → l.goal ≡ j → l.set ≡ removed →
    l.chains.items ≡ chains → new ≡ old ++ l ∷ [] → AddsLevel g.states c region j chains left old new
level_pushed g h b c region left whole removed j chains old new l same_game differ known all gone bc goal_is set_is
    chains_are pushed =
    let out : IsSame h.states (c.means removed) (outside (c.means left)) =
    subst (λ (m : StateSet). IsSame h.states (c.means removed) (outside m)) (sym (bc.same left known))
    (removed_is whole left removed all gone) in
    let is : Is h.states c removed (outside (c.means left)) = record { known = gone.known; means = out } in
    let is_set : Is h.states c l.set (outside (c.means left)) =
    subst (λ (id : NodeId). Is h.states c id (outside (c.means left))) (sym set_is) is in
    inr (differ, l, record { for_goal = goal_is; set = is_at same_game is_set; keeps = chains_are }, pushed)
