-- Where sets that are unions of cells are a driver's certificate, their region lies in that of the lower parts.
use Rattle.std.proofs.Common.{◌≡◌, ◌⊎◌, inl, inr, ℕ, zero, suc, ◌+◌, ◌<◌, ◌≤◌, Bool, true, false, not, ◌||◌, ◌&&◌, List, [], ◌∷◌, length, slice_get, Some, cond, refl, sym, ap, ◌∙◌, subst, arith}
use Rattle.std.specs.List.{position_or_len}
use Rattle.tm_syntax.specs.Design.{DesignTree}
use Rattle.tm_sem.specs.State.{StateData}
use Rattle.tm_sem.specs.Step.{IsState}
use Rattle.tm_sem.specs.Play.{goal_holds}
use Rattle.tm_sem.specs.Forcing.{Stays}
use Rattle.tm_sem.specs.Certificates.{RankedSet, DriverSets, IsIn, rank, IsFairAtRank, AreRanked, MeetsMoveForm}
use Rattle.tm_flat_pool.specs.Predicates.{Predicate}
use Rattle.tm_flat_pool.specs.Cells.{AreDriverUnions}
use Rattle.tm_solve.specs.Sets.{StateSet, IsAmong}
use Rattle.tm_solve.specs.Game.{Game}
use Rattle.tm_solve.specs.Operator.{Operator}
use Rattle.tm_solve.specs.Exact.{IsGameOf}
use Rattle.tm_solve.specs.Fixpoints.{InSome, InRegion}
use Rattle.tm_refine.specs.Parts.{alike, TellCells, lower_game}
use Rattle.tm_solve.proofs.Items.{get_some}
use Rattle.tm_refine.specs.PartLaws.{lower_when}
use Rattle.tm_refine.proofs.Staying.{keeps_both, stays_more, stay_true}

-- ---- tests of numbers
at_most : ℕ → ℕ → Bool
at_most zero k = true
at_most (suc m) zero = false
at_most (suc m) (suc k) = at_most m k

at_most_is : (m k : ℕ) → at_most m k ≡ true → m ≤ k
unfolding at_most
at_most_is zero k e = omega arith
at_most_is (suc m) zero e = absurd (cc)
at_most_is (suc m) (suc k) e = let h = at_most_is m k e in omega arith

is_at_most : (m k : ℕ) → m ≤ k → at_most m k ≡ true
unfolding at_most
is_at_most zero k l = refl
is_at_most (suc m) zero l = absurd (omega arith)
is_at_most (suc m) (suc k) l = is_at_most m k (omega arith)

below_or_not : (m k : ℕ) → (m < k) ⊎ (k ≤ m)
below_or_not zero zero = inr (omega arith)
below_or_not zero (suc k) = inl (omega arith)
below_or_not (suc m) zero = inr (omega arith)
below_or_not (suc m) (suc k) =
    elim (below_or_not m k) [ inl l ↦ inl (omega arith) | inr l ↦ inr (omega arith) ]

-- ---- tests
and_parts : (a b : Bool) → (a && b) ≡ true → (a ≡ true) × (b ≡ true)
and_parts true b e = (refl, e)
and_parts false b e = absurd (cc)

and_both : (a b : Bool) → a ≡ true → b ≡ true → (a && b) ≡ true
and_both true b p q = q
and_both false b p q = absurd (cc)

in_first : (a b c : Bool) → a ≡ true → (a || b || c) ≡ true
in_first true b c e = refl
in_first false b c e = absurd (cc)

in_second : (a b c : Bool) → b ≡ true → (a || b || c) ≡ true
in_second true b c e = refl
in_second false true c e = refl
in_second false false c e = absurd (cc)

in_third : (a b c : Bool) → c ≡ true → (a || b || c) ≡ true
in_third true b c e = refl
in_third false true c e = refl
in_third false false c e = e

-- ---- places
abbrev place : List RankedSet → StateData → ℕ
place ranked s = position_or_len (λ (r : RankedSet). r.set s) ranked

same_choice : (x y : Bool) (m k : ℕ) → x ≡ y → m ≡ k → cond (not x) (1 + m) 0 ≡ cond (not y) (1 + k) 0
same_choice x y m k e f = ap (λ (b : Bool). cond (not b) (1 + m) 0) e ∙ ap (λ (i : ℕ). cond (not y) (1 + i) 0) f

same_place : (ranked : List RankedSet) (s t : StateData) →
    ((k : ℕ) (r : RankedSet) → slice_get ranked k ≡ Some r → r.set s ≡ r.set t) → place ranked s ≡ place ranked t
same_place [] s t f = refl
same_place (r ∷ rs) s t f =
    same_choice (r.set s) (r.set t) (place rs s) (place rs t) (f 0 r refl)
    (same_place rs s t (λ k q got. f (suc k) q got))

module _ {d : DesignTree} {op : Operator} {g : Game} (exact : IsGameOf d op g) (predicates : List Predicate)
    (ps : List StateSet) (cells : TellCells d predicates ps) (c : DriverSets) (meets : MeetsMoveForm d c)
    (unions : AreDriverUnions d predicates c) where
  -- ---- what the certificate says of the steps from a state of its region
  stays_within : (goal : ℕ) (ranked : List RankedSet) → AreRanked c goal ranked → goal < length d.goals →
      (s : StateData) → IsIn d c.region s → Stays d (IsIn d c.region) s
  stays_within goal ranked are below s here = record {
    valid = here.0;
    calm = λ move is. meets.c3 s here move is;
    driver = λ turn. let m = meets.c4 s goal here below turn in (m.0, m.1.allowed, m.1.keeps);
  }

  stays_no_higher : (goal : ℕ) (ranked : List RankedSet) → AreRanked c goal ranked → goal < length d.goals →
      (s : StateData) → IsIn d c.region s → goal_holds d s goal ≡ false →
      Stays d (λ t. IsIn d c.region t × (rank ranked t ≤ rank ranked s)) s
  stays_no_higher goal ranked are below s here fails = record {
    valid = here.0;
    calm = λ move is. let k = meets.c3 s here move is in record {
      no_error = k.no_error;
      ends_within = λ choices t step. (
        k.ends_within choices t step,
        meets.c5 s t goal ranked move choices here are fails (inl is) step,
      );
    };
    driver = λ turn. let m = meets.c4 s goal here below turn in (
      m.0,
      m.1.allowed,
      keeps_both (IsIn d c.region) (λ t. rank ranked t ≤ rank ranked s) m.1.keeps (m.1.no_higher ranked are fails),
    );
  }

  stays_lower : (goal : ℕ) (ranked : List RankedSet) → AreRanked c goal ranked → goal < length d.goals →
      (s : StateData) → IsIn d c.region s → goal_holds d s goal ≡ false → IsFairAtRank d ranked s →
      Stays d (λ t. IsIn d c.region t × (rank ranked t < rank ranked s)) s
  stays_lower goal ranked are below s here fails fair = record {
    valid = here.0;
    calm = λ move is. let k = meets.c3 s here move is in record {
      no_error = k.no_error;
      ends_within = λ choices t step. (
        k.ends_within choices t step,
        meets.c6 s t goal ranked move choices here are fails fair (inl is) step,
      );
    };
    driver = λ turn. let m = meets.c4 s goal here below turn in (
      m.0,
      m.1.allowed,
      keeps_both (IsIn d c.region) (λ t. rank ranked t < rank ranked s) m.1.keeps
          (m.1.lower ranked are fails fair),
    );
  }

  -- ---- the states of the region up to a rank
  abbrev up_to : List RankedSet → ℕ → StateSet
  up_to ranked k s = c.region s && at_most (place ranked s) k

  -- they are a union of cells
  up_to_same : (goal : ℕ) (ranked : List RankedSet) → AreRanked c goal ranked → (k : ℕ) (s t : StateData) →
      IsAmong s g.states → IsAmong t g.states → alike ps s t ≡ true → up_to ranked k s ≡ true →
      up_to ranked k t ≡ true
  up_to_same goal ranked are k s t in_s in_t same here =
      let v = exact.listed s in_s in
      let w = exact.listed t in_t in
      let cell = cells.cell s t v w same in
      let parts = and_parts (c.region s) (at_most (place ranked s) k) here in
      let places : place ranked s ≡ place ranked t =
      same_place ranked s t (λ i r got. unions.ranks goal i ranked r are got s t v w cell) in
      and_both (c.region t) (at_most (place ranked t) k) (sym (unions.region s t v w cell) ∙ parts.0)
      (subst (λ (i : ℕ). at_most i k ≡ true) places parts.1)

  -- ---- one turn of the least fixpoint
  module _ (goal : ℕ) (ranked : List RankedSet) (are : AreRanked c goal ranked) (below : goal < length d.goals)
      (f : StateSet) (k : ℕ) (r : RankedSet) (got : slice_get ranked k ≡ Some r)
      (before : (t : StateData) → IsAmong t g.states → c.region t ≡ true → place ranked t < k → f t ≡ true) where
    into_f : (s t : StateData) → place ranked s ≤ k → IsIn d c.region t × (rank ranked t < rank ranked s) → IsIn d f t
    into_f s t most (here, less) = (here.0, before t (exact.all t here.0) here.1 (omega arith))

    into_up : (s t : StateData) → place ranked s ≤ k → IsIn d c.region t × (rank ranked t ≤ rank ranked s) →
        IsIn d (up_to ranked k) t
    into_up s t most (here, less) = (
      here.0,
      and_both (c.region t) (at_most (place ranked t) k) here.1
          (is_at_most (place ranked t) k (omega arith)),
    )

    stay_f : (s : StateData) → IsIn d c.region s → goal_holds d s goal ≡ false → place ranked s < k →
        op.stay f s ≡ true
    stay_f s here fails less =
        stay_true exact f s here.0 (stays_more (λ t. IsIn d c.region t × (rank ranked t ≤ rank ranked s)) (IsIn d f)
        (λ t it. (it.0.0, before t (exact.all t it.0.0) it.0.1 (let l = it.1 in omega arith)))
        (stays_no_higher goal ranked are below s here fails))

    waits : (s : StateData) → IsIn d c.region s → goal_holds d s goal ≡ false → place ranked s ≡ k → (b : Bool) →
        op.fair r.fair s ≡ b →
        ((op.goal goal s && op.stay c.region s) || op.stay f s || (not b && op.stay (up_to ranked k) s)) ≡ true
    waits s here fails at true fair =
        in_second (op.goal goal s && op.stay c.region s) (op.stay f s) _
        (stay_true exact f s here.0 (stays_more (λ t. IsIn d c.region t × (rank ranked t < rank ranked s)) (IsIn d f)
        (λ t it. into_f s t (omega arith) it)
        (stays_lower goal ranked are below s here fails (
          k,
          r,
          ap (λ i. 1 + i) at,
          got,
          exact.fair r.fair s (meets.fairs goal k ranked r are got) here.0 fair,
        ))))
    waits s here fails at false fair =
        in_third (op.goal goal s && op.stay c.region s) (op.stay f s) (op.stay (up_to ranked k) s)
        (stay_true exact (up_to ranked k) s here.0
        (stays_more (λ t. IsIn d c.region t × (rank ranked t ≤ rank ranked s)) (IsIn d (up_to ranked k))
        (λ t it. into_up s t (omega arith) it) (stays_no_higher goal ranked are below s here fails)))

    fails_at : (s : StateData) → IsIn d c.region s → goal_holds d s goal ≡ false → place ranked s ≤ k →
        ((op.goal goal s && op.stay c.region s) || op.stay f s
        || (not (op.fair r.fair s) && op.stay (up_to ranked k) s)) ≡ true
    fails_at s here fails most =
        elim (below_or_not (place ranked s) k) [
          | inl less ↦
              in_second (op.goal goal s && op.stay c.region s) (op.stay f s) _ (stay_f s here fails less)
          | inr more ↦ waits s here fails (omega arith) (op.fair r.fair s) refl
        ]

    part_at : (s : StateData) → IsAmong s g.states → up_to ranked k s ≡ true →
        g.part c.region f (up_to ranked k) goal r.fair s ≡ true
    part_at s among here = exact.part c.region f (up_to ranked k) goal r.fair s among ∙ by (goal_holds d s goal) refl
      where
        valid : IsState d s
        valid = exact.listed s among

        parts : (c.region s ≡ true) × (at_most (place ranked s) k ≡ true)
        parts = and_parts (c.region s) (at_most (place ranked s) k) here

        by : (b : Bool) → goal_holds d s goal ≡ b →
            ((op.goal goal s && op.stay c.region s) || op.stay f s
            || (not (op.fair r.fair s) && op.stay (up_to ranked k) s)) ≡ true
        by true holds =
            in_first (op.goal goal s && op.stay c.region s) (op.stay f s) _
            (and_both (op.goal goal s) (op.stay c.region s) (exact.goal goal s valid ∙ holds)
            (stay_true exact c.region s valid (stays_within goal ranked are below s (valid, parts.0))))
        by false fails = fails_at s (valid, parts.0) fails (at_most_is (place ranked s) k parts.1)

    in_some : (s : StateData) → IsAmong s g.states → c.region s ≡ true → place ranked s ≡ k →
        InSome (lower_game ps g) c.region f goal s
    in_some s among here at = (
      r.fair,
      subst (λ (n : ℕ). r.fair < n) (sym exact.fairs) (meets.fairs goal k ranked r are got),
      record {
        set = up_to ranked k;
        holds = λ t in_t in_set. lower_when g.states ps (g.part c.region f (up_to ranked k) goal r.fair) t
            (λ u in_u same. part_at u in_u (up_to_same goal ranked are k t u in_t in_u same in_set));
        here = and_both (c.region s) (at_most (place ranked s) k) here (is_at_most (place ranked s) k (omega arith));
      },
    )

  -- ---- the least fixpoint holds the region, rank by rank
  module _ (goal : ℕ) (ranked : List RankedSet) (are : AreRanked c goal ranked) (below : goal < length d.goals)
      (f : StateSet)
      (closed : (t : StateData) → IsAmong t g.states → InSome (lower_game ps g) c.region f goal t → f t ≡ true) where
    reached : (k : ℕ) (s : StateData) → IsAmong s g.states → c.region s ≡ true → place ranked s < k → f s ≡ true
    reached zero s among here less = absurd (omega arith)
    reached (suc k) s among here less =
        elim (below_or_not (place ranked s) k) [
          | inl lower ↦ reached k s among here lower
          | inr not_lower ↦
              let most = meets.c2 s goal ranked (exact.listed s among, here) are in
              let found = get_some ranked k (omega arith) in
              closed s among (in_some goal ranked are below f k found.0 found.1 (reached k) s among here (omega arith))
        ]

  record Ranked (goal : ℕ) : Type 0 where
    list : List RankedSet
    are : AreRanked c goal list

  ranked_of : (goal : ℕ) → goal < length d.goals → Ranked goal
  ranked_of goal below =
      let r = get_some c.goals goal (subst (λ (n : ℕ). goal < n) (sym meets.goals) below) in
      record { list = r.0; are = r.1 }

  pub driver_keeps : (s : StateData) → IsAmong s g.states → c.region s ≡ true → InRegion (lower_game ps g) s
  driver_keeps s among here = record {
    set = c.region;
    holds = λ t in_t in_region goal less.
        let below : goal < length d.goals = subst (λ (n : ℕ). goal < n) exact.goals less in
        let it : Ranked goal = ranked_of goal below in
        record {
          every = λ f closed. reached goal it.list it.are below f closed (suc (place it.list t)) t in_t in_region
              (omega arith);
        };
    here = here;
  }
