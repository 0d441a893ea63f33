-- Where the search for a region over cells may start.
use Rattle.std.proofs.Common.{◌≡◌, ℕ, true, List, sym, ◌∙◌, subst}
use Rattle.tm_dd.specs.declared.node.NodeId.{NodeId}
use Rattle.tm_solve.specs.Ids.{Ids, Is, Stay}
use Rattle.tm_sem.specs.State.{StateData}
use Rattle.tm_solve.specs.Sets.{StateSet, IsAmong, IsSame, IsWithin}
use Rattle.tm_solve.specs.Game.{Game, IsMonotone}
use Rattle.tm_solve.specs.Fixpoints.{Holds, InReach, InRegion, InSome}
use Rattle.tm_solve.specs.Sides.{IsBelow}
use Rattle.tm_refine.specs.Parts.{alike, lower_game, lower_part, upper_game, upper_part, IsUnionOf}
use Rattle.tm_refine.specs.PartLaws.{alike_back, alike_self, lower_below, lower_holds, lower_monotone, lower_union, lower_when, upper_meets, upper_when}
use Rattle.tm_solve.proofs.Fixed.{reach_rises}
use Rattle.tm_refine.proofs.SidedSteps.{same_union}
use Rattle.tm_refine.proofs.OneSide.{region_up}

module _ (ps : List StateSet) (g : Game) (mono : IsMonotone g) where
  in_lower : (f : StateSet) → IsWithin g.states (lower_part g.states ps f) f
  in_lower f = record { within = λ s among h. lower_holds g.states ps f s h s among (alike_self ps s) }

  in_upper : (x : StateSet) → IsWithin g.states x (upper_part g.states ps x)
  in_upper x = record { within = λ s among h. upper_when g.states ps x s s among (alike_self ps s) h }

  -- what waits in whole cells of Y waits in whole cells
  some_alike : (z f : StateSet) (j : ℕ) (u v : StateData) → IsAmong u g.states → IsAmong v g.states →
      alike ps u v ≡ true → InSome (lower_game ps g) z (lower_part g.states ps f) j u → InSome (lower_game ps g) z f j v
  some_alike z f j u v in_u in_v like some = (
    some.0,
    some.1,
    record {
      set = upper_part g.states ps some.2.set;
      holds = λ w in_w here.
          let m = upper_meets g.states ps some.2.set w here in
          (lower_union g.states ps (g.part z f (upper_part g.states ps some.2.set) j some.0)).same w m.0 in_w m.1 m.2
          ∙ ((lower_monotone ps g mono).rises z z (lower_part g.states ps f) f some.2.set
          (upper_part g.states ps some.2.set) j some.0
          (record { within = λ t in_t h. h }) (in_lower f) (in_upper some.2.set)).within m.0 m.1
          (some.2.holds m.0 m.1 m.3);
      here = upper_when g.states ps some.2.set v u in_u (alike_back ps u v like) some.2.here;
    },
  )

  reach_alike : (z : StateSet) (j : ℕ) (s t : StateData) → IsAmong s g.states → IsAmong t g.states →
      alike ps s t ≡ true → InReach (lower_game ps g) z j s → InReach (lower_game ps g) z j t
  reach_alike z j s t in_s in_t like r = record {
    every = λ f closed.
        lower_holds g.states ps f s
        (r.every (lower_part g.states ps f) (λ u in_u some. lower_when g.states ps f u
        (λ v in_v same. closed v in_v (some_alike z f j u v in_u in_v same some)))) t in_t like;
  }

  -- the region of the lower parts is a union of cells
  pub region_alike : (s t : StateData) → IsAmong s g.states → IsAmong t g.states → alike ps s t ≡ true →
      InRegion (lower_game ps g) s → InRegion (lower_game ps g) t
  region_alike s t in_s in_t like r = record {
    set = upper_part g.states ps r.set;
    holds = λ w in_w here j less.
        let m = upper_meets g.states ps r.set w here in
        reach_alike (upper_part g.states ps r.set) j m.0 w m.1 in_w (alike_back ps w m.0 m.2)
        (reach_rises (lower_game ps g) (lower_monotone ps g mono) r.set (upper_part g.states ps r.set) j
        (in_upper r.set) m.0 (r.holds m.0 m.1 m.3 j less));
    here = upper_when g.states ps r.set t s in_s (alike_back ps s t like) r.here;
  }

  -- so it lies in the lower part of the exact region
  pub lower_start : (region : StateSet) → Holds g.states region (InRegion g) → (s : StateData) →
      IsAmong s g.states → InRegion (lower_game ps g) s → lower_part g.states ps region s ≡ true
  lower_start region holds s among r =
      lower_when g.states ps region s (λ t in_t like.
      holds.all t in_t (region_up g (lower_game ps g).part g.part (lower_below ps g) t
      (region_alike s t among in_t like r)))

-- more tests: the lower parts rise and the upper parts fall
module _ (ps qs : List StateSet) (g : Game)
    (finer : (s t : StateData) → IsAmong s g.states → IsAmong t g.states → alike qs s t ≡ true → alike ps s t ≡ true)
  where
    lower_more : IsBelow g.states (lower_game ps g).part (lower_game qs g).part
    lower_more = record {
      below = λ z y x j i s among h. lower_when g.states qs (g.part z y x j i) s
          (λ t in_t like. lower_holds g.states ps (g.part z y x j i) s h t in_t (finer s t among in_t like));
    }

    pub upper_less : IsBelow g.states (upper_game qs g).part (upper_game ps g).part
    upper_less = record {
      below = λ z y x j i s among h. let m = upper_meets g.states qs (g.part z y x j i) s h in
          upper_when g.states ps (g.part z y x j i) s m.0 m.1 (finer s m.0 among m.1 m.2) m.3;
    }

    -- the upper region of fewer tests is a start for that of more
    pub upper_start : (s : StateData) → InRegion (upper_game qs g) s → InRegion (upper_game ps g) s
    upper_start s r = region_up g (upper_game qs g).part (upper_game ps g).part upper_less s r

    pub lower_region_rises : (s : StateData) → InRegion (lower_game ps g) s → InRegion (lower_game qs g) s
    lower_region_rises s r = region_up g (lower_game ps g).part (lower_game qs g).part lower_more s r

    -- and a union of cells of fewer tests is one of cells of more
    pub union_more : (a : StateSet) → IsUnionOf g.states ps a → IsUnionOf g.states qs a
    union_more a u = record { same = λ s t in_s in_t like. u.same s t in_s in_t (finer s t in_s in_t like) }

-- a region stays that of the game over calls that leave the game
pub holds_still : (a b : Ids) (g h : Game) (id : NodeId) → h ≡ g → Stay a b → a.knows id →
    Holds g.states (a.means id) (InRegion g) → Holds h.states (b.means id) (InRegion h)
holds_still a b g h id same stay known holds =
    subst (λ (q : Game). Holds q.states (b.means id) (InRegion q)) (sym same)
    (subst (λ (m : StateSet). Holds g.states m (InRegion g)) (sym (stay.same id known)) holds)

-- an id that means the lower part of the exact region is a start
module _ (ks js : List ℕ) (same : ks ≡ js) (T : List ℕ → List StateSet) (g : Game) (b : Ids) (id : NodeId)
    (region : StateSet) (is : Is g.states b id (lower_part g.states (T ks) region)) where
  part_is : IsSame g.states (b.means id) (lower_part g.states (T js) region)
  part_is = subst (λ (l : List ℕ). IsSame g.states (b.means id) (lower_part g.states (T l) region)) same is.means

  pub start_union : IsUnionOf g.states (T js) (b.means id)
  start_union = same_union g.states (T js) (b.means id) (lower_part g.states (T js) region) part_is
      (lower_union g.states (T js) region)

  pub start_above : IsMonotone g → Holds g.states region (InRegion g) → (s : StateData) → IsAmong s g.states →
      InRegion (lower_game (T js) g) s → b.means id s ≡ true
  start_above mono holds s among r = part_is.same s among ∙ lower_start (T js) g mono region holds s among r

  -- the start stays one over a call that leaves the game and the tests
  module _ (T' : List ℕ → List StateSet) (g' : Game) (tests : T' ≡ T) (game : g' ≡ g) where
    pub union_there : IsUnionOf g'.states (T' js) (b.means id)
    union_there =
        subst (λ (h : Game). IsUnionOf h.states (T' js) (b.means id)) (sym game)
        (subst (λ (t : List ℕ → List StateSet). IsUnionOf g.states (t js) (b.means id)) (sym tests) start_union)

    pub above_there : IsMonotone g → Holds g.states region (InRegion g) → (s : StateData) → IsAmong s g'.states →
        InRegion (lower_game (T' js) g') s → b.means id s ≡ true
    above_there mono holds =
        subst (λ (h : Game). (s : StateData) → IsAmong s h.states → InRegion (lower_game (T' js) h) s →
        b.means id s ≡ true) (sym game)
        (subst (λ (t : List ℕ → List StateSet). (s : StateData) → IsAmong s g.states →
        InRegion (lower_game (t js) g) s → b.means id s ≡ true) (sym tests) (start_above mono holds))
