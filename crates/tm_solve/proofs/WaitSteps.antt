-- The loop that seeks a greatest fixpoint over X.
use Rattle.std.proofs.Common.{◌≡◌, ◌≢◌, ℕ, ◌<◌, true, not, ◌&&◌, List, [], ◌∷◌, ◌++◌, map, refl, sym, ap, ◌∙◌, subst}
use Rattle.tm_dd.specs.declared.node.NodeId.{NodeId}
use Rattle.tm_sem.specs.State.{StateData}
use Rattle.tm_sem.specs.Certificates.{nowhere}
use Rattle.tm_solve.specs.Sets.{StateSet, outside, common, everywhere, IsWithin, IsSame, count}
use Rattle.tm_solve.specs.Game.{Game, IsMonotone}
use Rattle.tm_solve.specs.Ids.{Ids, Is, IsExact, Extends}
use Rattle.tm_solve.specs.Fixpoints.{InStay, Holds}
use Rattle.tm_solve.specs.Levels.{AreLinks, last_link}
use Rattle.tm_solve.specs.Iterates.{Each}
use Rattle.tm_solve.specs.declared.conditions.Waited.{Waited}
use Rattle.tm_solve.specs.Inner.Waits.{IsWaited, WaitsSoFar}
use Rattle.tm_solve.proofs.Sets.{both_same, within_here, within_then, same_back, same_then, same_within, outside_within, outside_same, outside_twice, count_gains}
use Rattle.tm_solve.proofs.Joins.{and_left, and_right, and_both}
use Rattle.tm_solve.proofs.Following.{other_gains, is_kept}
use Rattle.tm_solve.proofs.Items.{map_more, each_more, each_kept, map_kept}
use Rattle.tm_solve.proofs.Fixed.{stay_of}

-- what the operator answers, said of the game and the sets of the start
pub part_at : (g h : Game) (a b : Ids) (zs ys : StateSet) (z y x id : NodeId) (j i : ℕ) → h ≡ g → a.means z ≡ zs →
    a.means y ≡ ys → Is h.states b id (h.part (a.means z) (a.means y) (a.means x) j i) →
    Is g.states b id (g.part zs ys (a.means x) j i)
part_at g h a b zs ys z y x id j i same_game same_z same_y is =
    subst (λ (q : Game). Is q.states b id (q.part zs ys (a.means x) j i)) same_game
    (subst (λ (v : StateSet). Is h.states b id (h.part zs v (a.means x) j i)) same_y
    (subst (λ (v : StateSet). Is h.states b id (h.part v (a.means y) (a.means x) j i)) same_z is))

-- one more set at the end of a chain
links_more : (g : Game) (z y : StateSet) (j i : ℕ) (before : StateSet) (cs : List StateSet) (c : StateSet) →
    AreLinks g z y j i before cs → IsWithin g.states (last_link before cs) c →
    IsWithin g.states (g.part z y (common (outside (last_link before cs)) z) j i) (outside c) →
    AreLinks g z y j i before (cs ++ c ∷ [])
links_more g z y j i before [] c links grows leads = ((grows, leads), tt)
links_more g z y j i before (d ∷ ds) c links grows leads = (links.0, links_more g z y j i d ds c links.1 grows leads)

last_link_more : (before : StateSet) (cs : List StateSet) (c : StateSet) → last_link before (cs ++ c ∷ []) ≡ c
last_link_more before [] c = refl
last_link_more before (d ∷ ds) c = last_link_more d ds c

-- what is removed is all that is outside the next iterate
pub removed_is : {n : List StateData} {b c : Ids} (whole next removed : NodeId) → Is n b whole everywhere →
    Is n c removed (λ s. b.means whole s && not (b.means next s)) → IsSame n (c.means removed) (outside (b.means next))
removed_is {b = b} whole next removed all is =
    record { same = λ s among. is.means.same s among ∙ ap (λ v. v && not (b.means next s)) (all.means.same s among) }

module _ (g : Game) (mono : IsMonotone g) (z y : StateSet) (j i : ℕ) where
  -- one more iterate, and what it leaves out
  wait_goes_on : {a b c : Ids} (x next removed : NodeId) (items : List NodeId) → WaitsSoFar g a z y j i x items →
      Is g.states b next (g.part z y (a.means x) j i) → Extends a b → Extends b c → c.knows removed →
      IsSame g.states (c.means removed) (outside (b.means next)) →
      WaitsSoFar g c z y j i next (items ++ removed ∷ [])
  wait_goes_on {a = a} {b = b} {c = c} x next removed items far is ab bc known same =
      let X : StateSet = a.means x in
      let N : StateSet = c.means next in
      let n_is : N ≡ b.means next = bc.same next is.known in
      let same_n : IsSame g.states N (g.part z y X j i) =
      subst (λ (m : StateSet). IsSame g.states m (g.part z y X j i)) (sym n_is) is.means in
      let n_in_x : IsWithin g.states N X = within_then (same_within same_n) far.falls in
      let out : IsSame g.states (outside (c.means removed)) N =
      same_then (outside_same (subst (λ (m : StateSet). IsSame g.states (c.means removed) (outside m)) (sym n_is) same))
      (outside_twice _ _) in
      let old : List StateSet = map a.means items in
      let kept : map c.means items ≡ old = map_kept a.knows c.means a.means
      (λ id k. bc.same id (ab.known id k) ∙ ab.same id k) items far.chain_known in
      let e : map c.means (items ++ removed ∷ []) ≡ old ++ c.means removed ∷ [] =
      map_more c.means items removed ∙ ap (λ m. m ++ c.means removed ∷ []) kept in
      let last : StateSet = last_link nowhere old in
      let left_before : IsWithin g.states (outside (c.means removed)) (outside last) = record {
        within = λ s among left. and_left (outside last s) (z s)
            (far.ends.same s among ∙ n_in_x.within s among (sym (out.same s among) ∙ left));
      } in
      let grows : IsWithin g.states last (c.means removed) =
      within_then (same_within (same_back (outside_twice _ _)))
      (within_then (outside_within left_before) (same_within (outside_twice _ _))) in
      let leads : IsWithin g.states (g.part z y (common (outside last) z) j i) (outside (c.means removed)) =
      within_then (mono.rises z z y y _ _ j i (within_here _ _) (within_here _ _) (same_within far.ends))
      (within_then (same_within (same_back same_n)) (same_within (same_back out))) in
      record {
        known = bc.known next is.known;
        above = λ s among stay. (same_within (same_back same_n)).within s among
            ((mono.rises z z y y stay.set X j i (within_here _ _) (within_here _ _)
            (record {
              within = λ t in_n here. far.above t in_n (record {
                set = stay.set;
                holds = stay.holds;
                here =
                    here;
              });
            })).within
            s among (stay.holds s among stay.here));
        falls = within_then (mono.rises z z y y N X j i (within_here _ _) (within_here _ _) n_in_x)
            (same_within (same_back same_n));
        chain_known = each_more c.knows items removed
            (each_kept a.knows c.knows (λ id k. bc.known id (ab.known id k)) items far.chain_known) known;
        links = subst (λ (m : List StateSet). AreLinks g z y j i nowhere m) (sym e)
            (links_more g z y j i nowhere old (c.means removed) far.links grows leads);
        ends = subst (λ (m : StateSet). IsSame g.states (common (outside m) z) N)
            (sym (ap (last_link nowhere) e ∙ last_link_more nowhere old (c.means removed)))
            (both_same (record {
              within = λ s among here. sym (out.same s among) ∙ and_left (outside (c.means removed) s) (z s) here;
            }) (record {
              within = λ s among here. and_both (outside (c.means removed) s) (z s) (out.same s among ∙ here)
                  (and_right (outside last s) (z s) (far.ends.same s among ∙ n_in_x.within s among here));
            }));
      }

  -- one more iterate, where a push left the list of what iterates leave out
  pub wait_continues : {a b c : Ids} (whole x next removed : NodeId) (items more : List NodeId) →
      WaitsSoFar g a z y j i x items → Is g.states a whole everywhere →
      Is g.states b next (g.part z y (a.means x) j i) →
      Extends a b → Extends b c → Is g.states c removed (λ s. b.means whole s && not (b.means next s)) →
      more ≡ items ++ removed ∷ [] → WaitsSoFar g c z y j i next more
  wait_continues {a = a} {b = b} {c = c} whole x next removed items more far all is ab bc gone pushed =
      subst (λ (l : List NodeId). WaitsSoFar g c z y j i next l) (sym pushed)
      (wait_goes_on x next removed items far is ab bc gone.known (removed_is whole next removed (is_kept ab all) gone))

  -- another iterate has fewer states
  fewer : {a b : Ids} (x next : NodeId) (items : List NodeId) → WaitsSoFar g a z y j i x items →
      Is g.states b next (g.part z y (a.means x) j i) → Extends a b → IsExact g.states b → next ≢ x →
      count g.states (b.means next) < count g.states (a.means x)
  fewer {a = a} {b = b} x next items far is ab exact differ =
      let w : IsWithin g.states (b.means next) (a.means x) = within_then (same_within is.means) far.falls in
      let e : b.means x ≡ a.means x = ab.same x far.known in
      let w' : IsWithin g.states (b.means next) (b.means x) =
      subst (λ (m : StateSet). IsWithin g.states (b.means next) m) (sym e) w in
      subst (λ (m : StateSet). count g.states (b.means next) < count g.states m) e
      (count_gains g.states (b.means next) (b.means x) w'
      (other_gains next x exact is.known (ab.known x far.known) differ w'))

  pub wait_shrinks : {a b c : Ids} (x next : NodeId) (items : List NodeId) → WaitsSoFar g a z y j i x items →
      Is g.states b next (g.part z y (a.means x) j i) → Extends a b → Extends b c → IsExact g.states b → next ≢ x →
      count g.states (c.means next) < count g.states (a.means x)
  wait_shrinks {a = a} {b = b} {c = c} x next items far is ab bc exact differ =
      subst (λ (m : StateSet). count g.states m < count g.states (a.means x)) (sym (bc.same next is.known))
      (fewer x next items far is ab exact differ)

  -- an iterate that stays as it was is the fixpoint
  pub wait_ends : {a b : Ids} (x next : NodeId) (items : List NodeId) (w : Waited) → WaitsSoFar g a z y j i x items →
      Is g.states b next (g.part z y (a.means x) j i) → Extends a b → next ≡ x → w.set ≡ x →
      w.chain.sets.items ≡ items →
      IsWaited g b z y j i w
  wait_ends {a = a} {b = b} x next items w far is ab same_id set_is items_are =
      let kept : map b.means items ≡ map a.means items =
      map_kept a.knows b.means a.means ab.same items far.chain_known in
      let e : map b.means w.chain.sets.items ≡ map a.means items = ap (map b.means) items_are ∙ kept in
      let bx : b.means w.set ≡ a.means x = ap b.means set_is ∙ ab.same x far.known in
      let same : IsSame g.states (a.means x) (g.part z y (a.means x) j i) =
      subst (λ (m : StateSet). IsSame g.states m (g.part z y (a.means x) j i))
      (ap b.means same_id ∙ ab.same x far.known) is.means in
      let fixed : Holds g.states (a.means x) (InStay g z y j i) =
      record { only = λ s among here. stay_of g z y (a.means x) j i (same_within same) s here; all = far.above } in
      record {
        known = subst b.knows (sym set_is) (ab.known x far.known);
        set = subst (λ (m : StateSet). Holds g.states m (InStay g z y j i)) (sym bx) fixed;
        chain_known = subst (λ (m : List NodeId). Each b.knows m) (sym items_are)
            (each_kept a.knows b.knows ab.known items far.chain_known);
        chain = record {
          links = subst (λ (m : List StateSet). AreLinks g z y j i nowhere m) (sym e) far.links;
          stays = record {
            only = λ s among here. fixed.only s among (sym (far.ends.same s among)
                ∙ subst (λ (m : List StateSet). common (outside (last_link nowhere m)) z s ≡ true) e here);
            all = λ s among stay. subst (λ (m : List StateSet). common (outside (last_link nowhere m)) z s ≡ true)
                (sym e) (far.ends.same s among ∙ fixed.all s among stay);
          };
        };
      }
