-- The game of which a set of states alone is looked at has the laws of the game, and where the set holds the region no
-- state of it is lost.
use Rattle.std.proofs.Common.{◌≡◌, ◌⊎◌, inl, inr, ℕ, zero, suc, ◌+◌, ◌<◌, Bool, true, false, ◌&&◌, ◌||◌, List, [], ◌∷◌, length, refl, sym, ap, ◌∙◌, subst, arith}
use Rattle.tm_dd.specs.declared.node.NodeId.{NodeId}
use Rattle.tm_sem.specs.State.{StateData}
use Rattle.tm_sem.specs.Certificates.{RankedSet, nowhere}
use Rattle.tm_solve.specs.Sets.{StateSet, IsAmong, IsWithin, common, count}
use Rattle.tm_solve.specs.Game.{Game, IsMonotone, IsAbsorbing}
use Rattle.tm_solve.specs.Narrowed.{narrowed}
use Rattle.tm_solve.specs.Ids.{Ids, Is}
use Rattle.tm_solve.specs.Fixpoints.{InStay, InSome, InReach, InRegion}
use Rattle.tm_solve.specs.Ranks.{AreRanks}
use Rattle.tm_solve.proofs.Sets.{within_here, count_most, count_gains}
use Rattle.tm_solve.proofs.Fixed.{reach_rises, some_rises, stay_of}
use Rattle.tm_solve.proofs.Joins.{or_cases, or_left, or_right, and_left, and_right, and_both}
use Rattle.tm_solve.proofs.ReachSteps.{some_reaches}

pub narrowed_monotone : (g : Game) (w : StateSet) → IsMonotone g → IsMonotone (narrowed g w)
narrowed_monotone g w mono = record {
  rises = λ z z' y y' x x' j i in_z in_y in_x. record {
    within = λ s among here. and_both (g.part z' y' x' j i s) (w s)
        ((mono.rises z z' y y' x x' j i in_z in_y in_x).within s among (and_left (g.part z y x j i s) (w s) here))
        (and_right (g.part z y x j i s) (w s) here);
  };
}

pub narrowed_absorbing : (g : Game) (w : StateSet) → IsAbsorbing g → IsAbsorbing (narrowed g w)
narrowed_absorbing g w absorb = record {
  goal = λ z z' y x j j' i in_y. record {
    within = λ s among here. and_both (g.part z' y x j' i s) (w s)
        ((absorb.goal z z' y x j j' i in_y).within s among (and_left (g.part z y x j i s) (w s) here))
        (and_right (g.part z y x j i s) (w s) here);
  };
  wait = λ z y x x' j i i' in_y. record {
    within = λ s among here. and_both (g.part z y x' j i' s) (w s)
        ((absorb.wait z y x x' j i i' in_y).within s among (and_left (g.part z y x j i s) (w s) here))
        (and_right (g.part z y x j i s) (w s) here);
  };
}

-- what the operator makes, met with a set, said of the game and the set of the start
pub met_at : (g h : Game) (b c : Ids) (zs made_set : StateSet) (z made next : NodeId) → h ≡ g → b.means z ≡ zs →
    Is g.states b made made_set → Is h.states c next (λ s. b.means made s && b.means z s) →
    Is g.states c next (common made_set zs)
met_at g h b c zs made_set z made next same_game same_z is met =
    let here : Is g.states c next (λ s. b.means made s && b.means z s) =
    subst (λ (q : Game). Is q.states c next (λ s. b.means made s && b.means z s)) same_game met in
    record {
      known = here.known;
      means = record {
        same = λ s among. here.means.same s among ∙ ap (λ (v : Bool). v && b.means z s) (is.means.same s among)
            ∙ ap (λ (m : StateSet). made_set s && m s) same_z;
      };
    }

-- what reaches a goal there reaches it in the game, and lies in the set
pub reach_of_narrowed : (g : Game) (w z : StateSet) (j : ℕ) (s : StateData) → InReach (narrowed g w) z j s →
    InReach g z j s
reach_of_narrowed g w z j s reach = record {
  every = λ f closed. reach.every f (λ t among some. closed t among (
    some.0,
    some.1,
    record {
      set = some.2.set;
      holds = λ u u_in here.
          and_left (g.part z f some.2.set j some.0 u) (w u) (some.2.holds u u_in here);
      here = some.2.here;
    },
  ));
}

pub reach_within : (g : Game) (z : StateSet) (j : ℕ) (s : StateData) → InReach (narrowed g z) z j s → z s ≡ true
reach_within g z j s reach = reach.every z (λ t among some.
    and_right (g.part z z some.2.set j some.0 t) (z t) (some.2.holds t among some.2.here))

pub ranks_of_narrowed : (g : Game) (w z : StateSet) (j : ℕ) (before : StateSet) (ranked : List RankedSet) →
    AreRanks (narrowed g w) z j before ranked → AreRanks g z j before ranked
ranks_of_narrowed g w z j before [] ranks = tt
ranks_of_narrowed g w z j before (r ∷ rs) ranks = (
  record {
    fair = ranks.0.fair;
    grows = ranks.0.grows;
    gains = ranks.0.gains;
    reached = λ s among out here.
        and_left (g.part z before r.set j r.fair s) (w s) (ranks.0.reached s among out here);
  },
  ranks_of_narrowed g w z j r.set rs ranks.1,
)

-- a set from each of whose states every goal is reached
module _ (g : Game) (mono : IsMonotone g) (absorb : IsAbsorbing g) (r : StateSet)
    (reaches : (s : StateData) → IsAmong s g.states → r s ≡ true → (k : ℕ) → k < g.goals → InReach g r k s) where
  -- a set that holds it lies in the region where from each of its states some goal is reached
  between : (last : StateSet) (j : ℕ) → IsWithin g.states r last →
      ((s : StateData) → IsAmong s g.states → last s ≡ true → InReach g r j s) → (s : StateData) →
      IsAmong s g.states → last s ≡ true → InRegion g s
  between last j up low s among here =
      record { set = last; holds = λ t in_n in_last k below_k. at t in_n in_last k below_k; here = here }
    where
      at : (t : StateData) → IsAmong t g.states → last t ≡ true → (k : ℕ) → k < g.goals → InReach g last k t
      at t in_n in_last k below_k = record {
        every = λ f closed.
            let in_f : IsWithin g.states r f = record {
              within = λ u u_in here.
                  (reach_rises g mono r last k up u (reaches u u_in here k below_k)).every f closed;
            } in
            (low t in_n in_last).every f (λ u u_in some. closed u u_in (
              some.0,
              some.1,
              stay_of g last f some.2.set k some.0 (record {
                within = λ v v_in here.
                    (absorb.goal r last f some.2.set j k some.0 in_f).within v v_in (some.2.holds v v_in here);
              }) u some.2.here,
            ));
      }

  module _ (z : StateSet) (above : (s : StateData) → IsAmong s g.states → InRegion g s → z s ≡ true) (j : ℕ)
      (below : j < g.goals) where
    all_within : IsWithin g.states r z
    all_within = record {
      within = λ s among here. above s among (record {
        set = r;
        holds = λ t in_n in_r k below_k. reaches t in_n in_r k below_k;
        here = here;
      });
    }

    -- what waits over states that reach the goal lies in the set
    waits_within : (y : StateSet) → ((s : StateData) → IsAmong s g.states → y s ≡ true → InReach g r j s) →
        (i : ℕ) → i < g.fairs → (x : StateSet) → IsWithin g.states x (g.part r y x j i) → IsWithin g.states x z
    waits_within y low i less x waits = record {
      within = λ s among here. above s among (between (λ t. r t || x t) j
          (record { within = λ t in_n in_r. or_left (r t) (x t) in_r })
          (λ t in_n both. at t in_n (or_cases (r t) (x t) both)) s among (or_right (r s) (x s) here));
    }
      where
        at : (t : StateData) → IsAmong t g.states → (r t ≡ true) ⊎ (x t ≡ true) → InReach g r j t
        at t in_n (inl in_r) = reaches t in_n in_r j below
        at t in_n (inr in_x) = some_reaches g mono r j y low t in_n (i, less, stay_of g r y x j i waits t in_x)

    -- so it waits there too
    some_narrowed : (y : StateSet) → ((s : StateData) → IsAmong s g.states → y s ≡ true → InReach g r j s) →
        (s : StateData) → InSome g r y j s → InSome (narrowed g z) z y j s
    some_narrowed y low s (i, less, stay) = (
      i,
      less,
      record {
        set = stay.set;
        holds = λ t in_n here. and_both (g.part z y stay.set j i t) (z t)
            ((mono.rises r z y y stay.set stay.set j i all_within (within_here _ _) (within_here _ _)).within t in_n
            (stay.holds t in_n here))
            ((waits_within y low i less stay.set (record { within = stay.holds })).within t in_n here);
        here = stay.here;
      },
    )

    module _ (f : StateSet)
        (closed : (t : StateData) → IsAmong t g.states → InSome (narrowed g z) z f j t → f t ≡ true)
        (s : StateData) (among : IsAmong s g.states) (reach : InReach g r j s) (out : f s ≡ false) where
      -- a set that is not the least fixpoint is one step short of a greater one
      grow : (y : StateSet) → IsWithin g.states y f →
          ((t : StateData) → IsAmong t g.states → y t ≡ true → InReach g r j t) →
          ((more : StateSet) → count g.states y < count g.states more → IsWithin g.states more f →
          ((t : StateData) → IsAmong t g.states → more t ≡ true → InReach g r j t) → ⊥) → ⊥
      grow y in_f low further =
          let here : f s ≡ true = in_f.within s among (reach.every y (λ t in_n some. at t in_n some (y t) refl)) in
          let wrong : true ≡ false = sym here ∙ out in
          cc
        where
          at : (t : StateData) → IsAmong t g.states → InSome g r y j t → (b : Bool) → y t ≡ b → y t ≡ true
          at t in_n some true e = e
          at t in_n (i, less, stay) false e = absurd (further (λ u. y u || stay.set u)
              (count_gains g.states y (λ u. y u || stay.set u)
              (record { within = λ u u_in here. or_left (y u) (stay.set u) here })
              (record {
                state = t;
                listed = in_n;
                without_it = e;
                with_it = or_right (y t) (stay.set t) stay.here;
              }))
              (record { within = λ u u_in both. into u u_in (or_cases (y u) (stay.set u) both) })
              (λ u u_in both. reached u u_in (or_cases (y u) (stay.set u) both)))
            where
              still : (u : StateData) → stay.set u ≡ true → InSome g r y j u
              still u here = (i, less, record { set = stay.set; holds = stay.holds; here = here })

              into : (u : StateData) → IsAmong u g.states → (y u ≡ true) ⊎ (stay.set u ≡ true) → f u ≡ true
              into u u_in (inl here) = in_f.within u u_in here
              into u u_in (inr here) = closed u u_in
                  (some_rises (narrowed g z) (narrowed_monotone g z mono) z z y f j (within_here _ _) in_f u
                  (some_narrowed y low u (still u here)))

              reached : (u : StateData) → IsAmong u g.states → (y u ≡ true) ⊎ (stay.set u ≡ true) → InReach g r j u
              reached u u_in (inl here) = low u u_in here
              reached u u_in (inr here) = some_reaches g mono r j y low u u_in (still u here)

      -- and sets do not grow for ever
      ends : (m : ℕ) (y : StateSet) → length g.states < m + count g.states y → IsWithin g.states y f →
          ((t : StateData) → IsAmong t g.states → y t ≡ true → InReach g r j t) → ⊥
      ends zero y room in_f low = let most = count_most g.states y in omega arith
      ends (suc m) y room in_f low =
          grow y in_f low (λ next more next_in next_low. ends m next (omega arith) next_in next_low)

    -- what reaches a goal in the game reaches it there
    pub reach_narrowed : (s : StateData) → IsAmong s g.states → InReach g r j s → InReach (narrowed g z) z j s
    reach_narrowed s among reach = record { every = λ f closed. at f closed (f s) refl }
      where
        at : (f : StateSet) → ((t : StateData) → IsAmong t g.states → InSome (narrowed g z) z f j t → f t ≡ true) →
            (b : Bool) → f s ≡ b → f s ≡ true
        at f closed true e = e
        at f closed false e = absurd (ends f closed s among reach e (suc (length g.states)) nowhere (omega arith)
            (record { within = λ t in_n here. cc }) (λ t in_n here. absurd (cc)))
