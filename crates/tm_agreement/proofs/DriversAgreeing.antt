-- Drivers' certificates whose sets agree at the valid states.
use Rattle.std.proofs.Common.{◌≡◌, ◌⊎◌, inl, inr, ℕ, ◌+◌, ◌<◌, ◌≤◌, List, [], ◌∷◌, map, length, slice_get, sym, ap, ◌∙◌, subst, arith}
use Rattle.std.specs.Option.{option_map_or}
use Rattle.std.specs.List.{AllByRecursion, AllZip, flat_map, range_with_len}
use Rattle.tm_agreement.specs.Agreement.{DriversAgree, RankedAgree}
use Rattle.tm_sem.specs.Certificates.{AddsState, AreRanked, DriverSets, IsFairAtRank, IsGoodMove, IsIn, MeetsDriver, MeetsMoveForm, RankedSet, WaitForConditions, no_answer, rank}
use Rattle.tm_syntax.specs.Design.{DesignTree}
use Rattle.tm_verdict.specs.Driver.{DriverPart, FailsAt, IsOut, IsRefused, IsReported, Passes, adds_state, begins_within, driver_parts, falls_when_fair, is_answered, is_calm, is_ranked, lies_within, never_rises, region_parts}
use Rattle.tm_sem.specs.Fairness.{IsFair, conditions}
use Rattle.tm_sem.specs.Forcing.{Leads}
use Rattle.tm_verdict.specs.Reported.{IsFirstOf}
use Rattle.tm_sem.specs.declared.state.Move.{Move}
use Rattle.tm_sem.specs.State.{StateData}
use Rattle.tm_sem.specs.Step.{IsAllowed, IsInitial, IsState}
use Rattle.tm_agreement.proofs.Agreeing.{Steady, agree_flip, all_weaker, ends_valid, in_other, keeps_more, leads_more, zip_at, zip_flip, zip_length, zip_position, zip_told}
use Rattle.tm_verdict.proofs.DriverParts.{meets_of_parts, parts_pass}

module _ (d : DesignTree) where
  ranked_flip : (a b : RankedSet) → RankedAgree d a b → RankedAgree d b a
  ranked_flip a b agree = record { fair = sym agree.fair; set = agree_flip d a.set b.set agree.set }

  pub flipped : (x y : DriverSets) → DriversAgree d x y → DriversAgree d y x
  flipped x y agree = record {
    region = agree_flip d x.region y.region agree.region;
    goals = zip_flip (AllZip (RankedAgree d)) (AllZip (RankedAgree d))
        (zip_flip (RankedAgree d) (RankedAgree d) ranked_flip) x.goals y.goals agree.goals;
  }

  rank_same : (one other : List RankedSet) → AllZip (RankedAgree d) one other → (s : StateData) → IsState d s →
      rank one s ≡ rank other s
  rank_same one other agree s is =
      ap (λ n. 1 + n)
      (zip_position (RankedAgree d) (λ (r : RankedSet). r.set s) (λ (r : RankedSet). r.set s)
      (λ a b both. both.set.same s is) one other agree)

  adds : (one other : List RankedSet) → AllZip (RankedAgree d) one other → (k : ℕ) → AddsState d one k →
      AddsState d other k
  adds one other agree k (s, is, at) = (s, is, sym (rank_same one other agree s is) ∙ at)

  fair_back : (one other : List RankedSet) → AllZip (RankedAgree d) one other → (s : StateData) → IsState d s →
      IsFairAtRank d other s → IsFairAtRank d one s
  fair_back one other agree s is (k, r, at, there, fair) =
      let own = zip_at (RankedAgree d) one other k r agree there in (
        k,
        own.0,
        rank_same one other agree s is ∙ at,
        own.1,
        subst (λ (i : ℕ). IsFair d s i) (sym own.2.fair) fair,
      )

  -- ---- from one certificate to another
  module _ (steady : Steady d) (answers : StateData → ℕ → Move → Type 0) (x y : DriverSets)
      (agree : DriversAgree d x y) where
    own_of : (goal : ℕ) (ranked : List RankedSet) → AreRanked y goal ranked →
        (own : List RankedSet) × AreRanked x goal own × AllZip (RankedAgree d) own ranked
    own_of goal ranked is = zip_at (AllZip (RankedAgree d)) x.goals y.goals goal ranked agree.goals is

    in_y : (s : StateData) → IsIn d x.region s → IsIn d y.region s
    in_y = in_other d x.region y.region agree.region

    in_x : (s : StateData) → IsIn d y.region s → IsIn d x.region s
    in_x = in_other d y.region x.region (agree_flip d x.region y.region agree.region)

    pub passes : (part : DriverPart) → Passes d answers x part → Passes d answers y part
    passes (lies_within goal k) pass = λ ranked r is at s within.
        let own = own_of goal ranked is in
        let region = zip_at (RankedAgree d) own.0 ranked k r own.2 at in
        in_y s (pass own.0 region.0 own.1 region.1 s
        (in_other d r.set region.0.set (agree_flip d region.0.set r.set region.2.set) s within))
    passes (adds_state goal k) pass = λ ranked is.
        let own = own_of goal ranked is in adds own.0 ranked own.2 k (pass own.0 own.1)
    passes begins_within pass = λ s is. in_y s (pass s is)
    passes (is_ranked goal) pass = λ s ranked within is.
        let own = own_of goal ranked is in
        let low = pass s own.0 (in_x s within) own.1 in
        omega (arith, low, rank_same own.0 ranked own.2 s within.0, zip_length (RankedAgree d) own.0 ranked own.2)
    passes is_calm pass = λ s within move other.
        keeps_more d (IsIn d x.region) (IsIn d y.region) s move (λ choices t step. in_y t)
        (pass s (in_x s within) move other)
    passes (is_answered goal) pass = λ s move within turn answer.
        let both = pass s move (in_x s within) turn answer in (
          both.0,
          keeps_more d (IsIn d x.region) (IsIn d y.region) s move (λ choices t step. in_y t) both.1,
        )
    passes (never_rises goal) pass = λ s t ranked move choices within is fails made step.
        let own = own_of goal ranked is in
        let low = pass s t own.0 move choices (in_x s within) own.1 fails made step in
        omega (
          arith,
          low,
          rank_same own.0 ranked own.2 s within.0,
          rank_same own.0 ranked own.2 t (ends_valid d steady s t move choices within.0 step),
        )
    passes (falls_when_fair goal) pass = λ s t ranked move choices within is fails fair made step.
        let own = own_of goal ranked is in
        let low = pass s t own.0 move choices (in_x s within) own.1 fails
        (fair_back own.0 ranked own.2 s within.0 fair) made step in
        omega (
          arith,
          low,
          rank_same own.0 ranked own.2 s within.0,
          rank_same own.0 ranked own.2 t (ends_valid d steady s t move choices within.0 step),
        )

    -- the parts are the same ones
    parts_for : ℕ → (ℕ → ℕ) → List DriverPart
    parts_for n ranks =
        flat_map (λ parts. parts)
        (flat_map (λ goal. flat_map (region_parts goal) (range_with_len 0 (ranks goal))) (range_with_len 0 n)
        ∷ (begins_within ∷ [])
        ∷ map is_ranked (range_with_len 0 n)
        ∷ (is_calm ∷ [])
        ∷ map is_answered (range_with_len 0 n)
        ∷ map never_rises (range_with_len 0 n)
        ∷ map falls_when_fair (range_with_len 0 n)
        ∷ [])

    pub parts_same : driver_parts x ≡ driver_parts y
    unfolding parts_for
    parts_same =
        let count = zip_length (AllZip (RankedAgree d)) x.goals y.goals agree.goals in
        let ranks : (goal : ℕ) → option_map_or (λ (ranked : List RankedSet). length ranked) (slice_get x.goals goal) 0
        ≡ option_map_or (λ (ranked : List RankedSet). length ranked) (slice_get y.goals goal) 0 =
        λ goal. zip_told (AllZip (RankedAgree d)) (λ (ranked : List RankedSet). length ranked)
        (λ (ranked : List RankedSet). length ranked) 0 (zip_length (RankedAgree d)) x.goals y.goals goal agree.goals in
        λ i. parts_for (count i) (λ goal. ranks goal i)

    -- the shape is the same
    pub goals_same : length x.goals ≡ length d.goals → length y.goals ≡ length d.goals
    goals_same all = sym (zip_length (AllZip (RankedAgree d)) x.goals y.goals agree.goals) ∙ all

    pub waits : WaitForConditions d x → WaitForConditions d y
    waits all goal k ranked r is at =
        let own = own_of goal ranked is in
        let region = zip_at (RankedAgree d) own.0 ranked k r own.2 at in
        subst (λ (i : ℕ). i < length (conditions d)) region.2.fair (all goal k own.0 region.0 own.1 region.1)

    pub meets : MeetsDriver d answers x → MeetsDriver d answers y
    meets all =
        meets_of_parts d answers y (goals_same all.goals) (waits all.fairs)
        (subst (AllByRecursion (Passes d answers y)) parts_same
        (all_weaker (Passes d answers x) (Passes d answers y) passes (driver_parts x)
        (parts_pass d answers x all.goals all)))

    -- ---- where a part fails
    out : (t : StateData) → IsState d t → IsOut x t → IsOut y t
    out t is off = sym (agree.region.same t is) ∙ off

    fair_on : (own ranked : List RankedSet) → AllZip (RankedAgree d) own ranked → (s : StateData) → IsState d s →
        IsFairAtRank d own s → IsFairAtRank d ranked s
    fair_on own ranked both s is fair =
        fair_back ranked own (zip_flip (RankedAgree d) (RankedAgree d) ranked_flip own ranked both) s is fair

    other_of : (goal : ℕ) (own : List RankedSet) → AreRanked x goal own →
        (ranked : List RankedSet) × AreRanked y goal ranked × AllZip (RankedAgree d) ranked own
    other_of goal own is =
        zip_at (AllZip (RankedAgree d)) y.goals x.goals goal own (flipped x y agree).goals is

    wrong_on : (s : StateData) (move : Move) → IsState d s → ((¬ IsAllowed d s move) ⊎ Leads d (IsOut x) s move) →
        (¬ IsAllowed d s move) ⊎ Leads d (IsOut y) s move
    wrong_on s move is (inl forbidden) = inl forbidden
    wrong_on s move is (inr leads) =
        inr (leads_more d (IsOut x) (IsOut y) s move
        (λ choices t step. out t (ends_valid d steady s t move choices is step)) leads)

    module _ (initial : (s : StateData) → IsInitial d s → IsState d s) where
      pub fails : (part : DriverPart) (s : StateData) → FailsAt d answers x part s → FailsAt d answers y part s
      fails (lies_within goal k) s (own, r, is, at, within, off) =
          let ranked = other_of goal own is in
          let region = zip_at (RankedAgree d) ranked.0 own k r ranked.2 at in (
            ranked.0,
            region.0,
            ranked.1,
            region.1,
            in_other d r.set region.0.set (agree_flip d region.0.set r.set region.2.set) s within,
            out s within.0 off,
          )
      fails (adds_state goal k) s none = none
      fails begins_within s (is, off) = (is, out s (initial s is) off)
      fails (is_ranked goal) s (own, within, is, past) =
          let ranked = other_of goal own is in
          let same = rank_same ranked.0 own ranked.2 s within.0 in
          let count = zip_length (RankedAgree d) ranked.0 own ranked.2 in (
            ranked.0,
            in_y s within,
            ranked.1,
            omega (arith, past, same, count),
          )
      fails is_calm s (move, within, other, leads) = (
        move,
        in_y s within,
        other,
        leads_more d (IsOut x) (IsOut y) s move
            (λ choices t step. out t (ends_valid d steady s t move choices within.0 step)) leads,
      )
      fails (is_answered goal) s (move, within, turn, answer, wrong) =
          (move, in_y s within, turn, answer, wrong_on s move within.0 wrong)
      fails (never_rises goal) s (t, own, move, choices, within, is, lacks, made, step, higher) =
          let ranked = other_of goal own is in
          let here = rank_same ranked.0 own ranked.2 s within.0 in
          let there = rank_same ranked.0 own ranked.2 t (ends_valid d steady s t move choices within.0 step) in (
            t,
            ranked.0,
            move,
            choices,
            in_y s within,
            ranked.1,
            lacks,
            made,
            step,
            omega (arith, higher, here, there),
          )
      fails (falls_when_fair goal) s (t, own, move, choices, within, is, lacks, fair, made, step, higher) =
          let ranked = other_of goal own is in
          let here = rank_same ranked.0 own ranked.2 s within.0 in
          let there = rank_same ranked.0 own ranked.2 t (ends_valid d steady s t move choices within.0 step) in (
            t,
            ranked.0,
            move,
            choices,
            in_y s within,
            ranked.1,
            lacks,
            fair_back ranked.0 own ranked.2 s within.0 fair,
            made,
            step,
            omega (arith, higher, here, there),
          )

  -- ---- both ways
  module _ (steady : Steady d) (initial : (s : StateData) → IsInitial d s → IsState d s)
      (answers : StateData → ℕ → Move → Type 0) (x y : DriverSets) (agree : DriversAgree d x y) where
    first_of : (part : DriverPart) (s : StateData) → IsFirstOf d (FailsAt d answers x part) s →
        IsFirstOf d (FailsAt d answers y part) s
    first_of part s first = record {
      here = fails steady answers x y agree initial part s first.here;
      none_before = λ t failing.
          first.none_before t (fails steady answers y x (flipped x y agree) initial part t failing);
    }

    reported : (part : DriverPart) (s : StateData) → IsReported d answers x part s → IsReported d answers y part s
    reported (adds_state goal k) s (own, is, none, first) =
        let ranked = other_of steady answers x y agree goal own is in (
          ranked.0,
          ranked.1,
          λ added. none (adds ranked.0 own ranked.2 k added),
          first,
        )
    reported (lies_within goal k) s first = first_of (lies_within goal k) s first
    reported begins_within s first = first_of begins_within s first
    reported (is_ranked goal) s first = first_of (is_ranked goal) s first
    reported is_calm s first = first_of is_calm s first
    reported (is_answered goal) s first = first_of (is_answered goal) s first
    reported (never_rises goal) s first = first_of (never_rises goal) s first
    reported (falls_when_fair goal) s first = first_of (falls_when_fair goal) s first

    pub refused : (condition goal : ℕ) (s : StateData) → IsRefused d answers x condition goal s →
        IsRefused d answers y condition goal s
    refused condition goal s is = record {
      before = is.before;
      part = is.part;
      behind = is.behind;
      parts = sym (parts_same steady answers x y agree) ∙ is.parts;
      passed = all_weaker (Passes d answers x) (Passes d answers y) (passes steady answers x y agree) is.before
          is.passed;
      number = is.number;
      of_goal = is.of_goal;
      reported = reported is.part s is.reported;
    }

  -- ---- the move form
  module _ (steady : Steady d) (x y : DriverSets) (agree : DriversAgree d x y) where
    pub good : (goal : ℕ) (s : StateData) (move : Move) → IsState d s → IsGoodMove d x goal s move →
        IsGoodMove d y goal s move
    good goal s move is was = record {
      allowed = was.allowed;
      keeps = keeps_more d (IsIn d x.region) (IsIn d y.region) s move
          (λ choices t step. in_other d x.region y.region agree.region t) was.keeps;
      no_higher = λ ranked are lacks.
          let own = own_of steady no_answer x y agree goal ranked are in
          keeps_more d (λ t. rank own.0 t ≤ rank own.0 s) (λ t. rank ranked t ≤ rank ranked s) s move
          (λ choices t step low.
          omega (
            arith,
            low,
            rank_same own.0 ranked own.2 s is,
            rank_same own.0 ranked own.2 t (ends_valid d steady s t move choices is step),
          ))
          (was.no_higher own.0 own.1 lacks);
      lower = λ ranked are lacks fair.
          let own = own_of steady no_answer x y agree goal ranked are in
          keeps_more d (λ t. rank own.0 t < rank own.0 s) (λ t. rank ranked t < rank ranked s) s move
          (λ choices t step low.
          omega (
            arith,
            low,
            rank_same own.0 ranked own.2 s is,
            rank_same own.0 ranked own.2 t (ends_valid d steady s t move choices is step),
          ))
          (was.lower own.0 own.1 lacks (fair_back own.0 ranked own.2 s is fair));
    }

    pub move_form : MeetsMoveForm d x → MeetsMoveForm d y
    move_form all =
        let sets = meets steady no_answer x y agree (record {
          goals = all.goals;
          fairs = all.fairs;
          c0 = all.c0;
          c1 = all.c1;
          c2 = all.c2;
          c3 = all.c3;
          c4 = λ s goal move within low turn none. absurd none;
          c5 = all.c5;
          c6 = all.c6;
        }) in
        record {
          goals = sets.goals;
          fairs = sets.fairs;
          c0 = sets.c0;
          c1 = sets.c1;
          c2 = sets.c2;
          c3 = sets.c3;
          c4 = λ s goal within low turn.
              let found = all.c4 s goal
              (in_other d y.region x.region (agree_flip d x.region y.region agree.region) s within) low turn in
              (found.0, good goal s found.0 within.0 found.1);
          c5 = sets.c5;
          c6 = sets.c6;
        }
