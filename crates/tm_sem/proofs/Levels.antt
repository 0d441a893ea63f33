-- In a level of an environment's certificate the environment forces rounds in which the level's goal never holds, or
-- the level before.
use Rattle.std.proofs.Common.{◌≡◌, ℕ, zero, suc, ◌+◌, ◌*◌, ◌<◌, ◌≤◌, ◌⊎◌, inl, inr, ⊎_elim, Bool, true, false, Option, None, Some, List, [], ◌∷◌, ◌++◌, get_or, length, refl, ap, ◌∙◌, subst, arith}
use Rattle.std.specs.Prelude.{cond, not, slice_get, ◌||◌}
use Rattle.std.specs.Option.{option_map_or}
use Rattle.std.specs.List.{list_any, position_or_len}
use Rattle.std.proofs.lemmas.Option.{slice_get-get_or}
use Rattle.tm_syntax.specs.Design.{DesignTree}
use Rattle.tm_sem.specs.State.{StateData}
use Rattle.tm_sem.specs.Play.{goal_holds}
use Rattle.tm_sem.specs.Fairness.{conditions}
use Rattle.tm_sem.specs.Loss.{IsStarved, Beats}
use Rattle.tm_sem.specs.Certificates.{IsIn, Level, level_before, IsNew, nowhere, either, set_before, MeetsEnvironment}
use Rattle.tm_sem.proofs.Winning.{forced_wider, more_steps, starved_beats}
use Rattle.tm_sem.proofs.Waiting.{Carried, CarriedAt, arrives, meets_one_more, leaves, ends_round, enters, is_starved}

-- the place of a state in a chain, from 0: that of the first set that holds it
abbrev pub place_in : List (StateData → Bool) → StateData → ℕ
place_in chain u = position_or_len (λ (set : StateData → Bool). set u) chain

-- it stands no later than any set that holds the state
first_no_later : (chain : List (StateData → Bool)) (x : ℕ) (set : StateData → Bool) (u : StateData) →
    slice_get chain x ≡ Some set → set u ≡ true → place_in chain u ≤ x
first_no_later [] x set u at here = absurd (cc)
first_no_later (c ∷ cs) zero set u at here =
    let same : c ≡ set = cc in
    let holds : c u ≡ true = ap (λ (f : StateData → Bool). f u) same ∙ here in
    rw holds (omega arith)
first_no_later (c ∷ cs) (suc x) set u at here = of_first (c u) (first_no_later cs x set u at here)
  where
    of_first : (b : Bool) → place_in cs u ≤ x → cond (not b) (1 + place_in cs u) 0 ≤ suc x
    of_first true later = omega arith
    of_first false later = omega arith

-- a state of some set of a chain has a place in it
place_below : (chain : List (StateData → Bool)) (u : StateData) → list_any (λ set. set u) chain ≡ true →
    place_in chain u < length chain
place_below [] u some = absurd (cc)
place_below (c ∷ cs) u some = of_first (c u) (place_below cs u) some
  where
    of_first : (b : Bool) → (list_any (λ set. set u) cs ≡ true → place_in cs u < length cs) →
        (b || list_any (λ set. set u) cs) ≡ true → cond (not b) (1 + place_in cs u) 0 < length (c ∷ cs)
    of_first true later some = omega arith
    of_first false later some = let below = later some in omega arith

module _ (d : DesignTree) (levels : List Level) (meets : MeetsEnvironment d levels) (n k : ℕ) (l : Level)
    (at : slice_get levels k ≡ Some l) (most : ℕ)
    (short : (i : ℕ) (chain : List (StateData → Bool)) → slice_get l.chains i ≡ Some chain → length chain ≤ suc most)
    (steps : ℕ)
    (below : (before : List StateData) (s : StateData) → IsIn d (level_before levels k) s → Beats d steps before s n)
  where
    -- a state of the level is in the level before, or its goal holds, or it is new and the goal fails
    at_state : (t : ℕ) → suc steps ≤ t → (before : List StateData) (u : StateData) → IsIn d l.set u →
        (IsNew d levels k l u → goal_holds d u l.goal ≡ false → Beats d t before u n) → Beats d t before u n
    at_state t enough before u here go = of_old (level_before levels k u) refl
      where
        of_goal : IsNew d levels k l u → (b : Bool) → goal_holds d u l.goal ≡ b → Beats d t before u n
        of_goal new true is = more_steps d (suc steps) t before u n enough
            (inr (forced_wider d (IsIn d (level_before levels k)) (λ next. Beats d steps (before ++ u ∷ []) next n)
            (λ next there. below (before ++ u ∷ []) next there) u (meets.e2 k l u at new is)))
        of_goal new false is = go new is

        of_old : (b : Bool) → level_before levels k u ≡ b → Beats d t before u n
        of_old true is = more_steps d steps t before u n (omega arith) (below before u (here.0, is))
        of_old false is = of_goal (here, is) (goal_holds d u l.goal) refl

    -- where a move towards the set before a place leads: to the level before, or to a lower place of the chain
    landed : (i : ℕ) (chain : List (StateData → Bool)) → slice_get l.chains i ≡ Some chain → (x : ℕ) (u : StateData) →
        IsIn d (either (set_before chain x) (level_before levels k)) u →
        IsIn d (level_before levels k) u ⊎ ((y : ℕ) × (x ≡ suc y) × IsIn d l.set u × (place_in chain u ≤ y))
    landed i chain is zero u there = inl there
    landed i chain is (suc y) u there = of_set (slice_get chain y) refl there
      where
        of_set : (o : Option (StateData → Bool)) → slice_get chain y ≡ o →
            IsIn d (either (option_map_or (λ set. set) o nowhere) (level_before levels k)) u →
            IsIn d (level_before levels k) u ⊎ ((x : ℕ) × (suc y ≡ suc x) × IsIn d l.set u × (place_in chain u ≤ x))
        of_set None at_y there = inl there
        of_set (Some set) at_y there = of_test (set u) refl there.1
          where
            of_test : (b : Bool) → set u ≡ b → (b || level_before levels k u) ≡ true →
                IsIn d (level_before levels k) u ⊎ ((x : ℕ) × (suc y ≡ suc x) × IsIn d l.set u × (place_in chain u ≤ x))
            of_test true holds some =
                let grows = ((meets.e0 k l at).2 i chain is).1 in
                inr (y, refl, (grows y set at_y).1 u (there.0, holds), first_no_later chain y set u at_y holds)
            of_test false holds some = inl (there.0, some)

    -- while a condition is waited for, each move leads to a lower place in its chain, or to the level before
    along_chain : (q i : ℕ) (chain : List (StateData → Bool)) → slice_get l.chains i ≡ Some chain → (t : ℕ) →
        suc steps ≤ t →
        ((before : List StateData) (s : StateData) → CarriedAt d l.goal q (suc i) before s → IsNew d levels k l s →
        Beats d t before s n) →
        (p : ℕ) (before : List StateData) (s : StateData) → CarriedAt d l.goal q i before s → IsNew d levels k l s →
        place_in chain s ≤ p → Beats d (t + p) before s n
    along_chain q i chain is t enough met zero before s carried new place =
        ⊎_elim
        (λ fair. more_steps d t (t + 0) before s n (omega arith)
        (met before s (meets_one_more d l.goal q before s i carried fair) new))
        (λ forced. more_steps d (suc steps) (t + 0) before s n (omega arith)
        (inr (forced_wider d (IsIn d (either (set_before chain (place_in chain s)) (level_before levels k)))
        (λ next. Beats d steps (before ++ s ∷ []) next n)
        (λ u there. ⊎_elim (λ old. below (before ++ s ∷ []) u old)
        (λ lower. absurd (let none : place_in chain s ≡ suc lower.0 = lower.1 in omega arith))
        (landed i chain is (place_in chain s) u there)) s forced)))
        (meets.e5 k i l chain s at is new)
    along_chain q i chain is t enough met (suc p) before s carried new place =
        ⊎_elim
        (λ fair. more_steps d t (t + suc p) before s n (omega arith)
        (met before s (meets_one_more d l.goal q before s i carried fair) new))
        (λ forced. more_steps d (suc (t + p)) (t + suc p) before s n (omega arith)
        (inr (forced_wider d (IsIn d (either (set_before chain (place_in chain s)) (level_before levels k)))
        (λ next. Beats d (t + p) (before ++ s ∷ []) next n)
        (λ u there. ⊎_elim
        (λ old. more_steps d steps (t + p) (before ++ s ∷ []) u n (omega arith) (below (before ++ s ∷ []) u old))
        (λ lower. at_state (t + p) (omega arith) (before ++ s ∷ []) u lower.2
        (λ now fails. along_chain q i chain is t enough met p (before ++ s ∷ []) u
        (arrives d l.goal q (before ++ s ∷ []) u i (leaves d l.goal q before s i carried) fails) now
        (omega (arith, lower.1, lower.3, place))))
        (landed i chain is (place_in chain s) u there)) s forced)))
        (meets.e5 k i l chain s at is new)

    -- the chain of a condition, in which a new state has a place
    chain_of : (i : ℕ) (s : StateData) → i < length (conditions d) → IsNew d levels k l s →
        (chain : List (StateData → Bool)) × (slice_get l.chains i ≡ Some chain) × (place_in chain s ≤ most)
    chain_of i s within new =
        let many = meets.chains k l at in
        let chain = get_or l.chains i [] in
        let is : slice_get l.chains i ≡ Some chain = slice_get-get_or l.chains i [] (omega arith) in
        let place = place_below chain s (meets.e3 k i l chain s at is new) in
        (chain, is, omega (arith, place, short i chain is))

    -- while w conditions are left, each costs as many moves as its chain has sets but one
    through : (q t : ℕ) → suc steps ≤ t →
        ((before : List StateData) (s : StateData) → CarriedAt d l.goal q (length (conditions d)) before s →
        IsNew d levels k l s → Beats d t before s n) →
        (w i : ℕ) → i + w ≡ length (conditions d) → (before : List StateData) (s : StateData) →
        CarriedAt d l.goal q i before s → IsNew d levels k l s → Beats d (t + w * most) before s n
    through q t enough whole zero i left before s carried new =
        more_steps d t (t + 0 * most) before s n (omega arith)
        (whole before s (subst (λ x. CarriedAt d l.goal q x before s) (omega arith) carried) new)
    through q t enough whole (suc w) i left before s carried new =
        let found = chain_of i s (omega arith) new in
        more_steps d (t + w * most + most) (t + suc w * most) before s n (grind arith)
        (along_chain q i found.0 found.1 (t + w * most) (grind arith)
        (λ before s carried new. through q t enough whole w (suc i) (omega arith) before s carried new)
        most before s carried new found.2)

    -- while r rounds and one more are left, each costs its conditions and a move to the next
    rounds_left : (r q : ℕ) → q + suc r ≡ n → (before : List StateData) (u : StateData) → Carried d l.goal q 0 before →
        IsIn d l.set u → Beats d (steps + suc r * (length (conditions d) * most + 1)) before u n
    rounds_left zero q left before u carried here =
        at_state (steps + suc zero * (length (conditions d) * most + 1)) (grind arith) before u here
        (λ new fails. more_steps d (suc steps + length (conditions d) * most)
        (steps + suc zero * (length (conditions d) * most + 1)) before u n (grind arith)
        (through q (suc steps) (omega arith)
        (λ before s carried new. starved_beats d (suc steps) before s n
        (subst (IsStarved d (before ++ s ∷ [])) (omega arith)
        (is_starved d l.goal (suc q) 0 (before ++ s ∷ []) (meets.goals k l at)
        (ends_round d l.goal q before s carried))))
        (length (conditions d)) 0 (omega arith) before u (arrives d l.goal q before u 0 carried fails) new))
    rounds_left (suc r) q left before u carried here =
        let m = length (conditions d) in
        let cost = steps + suc r * (m * most + 1) in
        at_state (steps + suc (suc r) * (m * most + 1)) (grind arith) before u here
        (λ new fails. more_steps d (suc cost + m * most) (steps + suc (suc r) * (m * most + 1)) before u n (grind arith)
        (through q (suc cost) (omega arith)
        (λ before s carried new. inr (forced_wider d (IsIn d l.set)
        (λ next. Beats d cost (before ++ s ∷ []) next n)
        (λ next there. rounds_left r (suc q) (omega arith) (before ++ s ∷ []) next
        (ends_round d l.goal q before s carried) there) s (meets.e4 k l s at new)))
        m 0 (omega arith) before u (arrives d l.goal q before u 0 carried fails) new))

    -- from a state of the level the environment forces n rounds, or the level before
    pub level_beats : (before : List StateData) (u : StateData) → IsIn d l.set u →
        Beats d (steps + n * (length (conditions d) * most + 1)) before u n
    level_beats before u here = of_number n refl
      where
        of_number : (r : ℕ) → r ≡ n → Beats d (steps + n * (length (conditions d) * most + 1)) before u n
        of_number zero is = starved_beats d _ before u n
            (subst (IsStarved d (before ++ u ∷ [])) is
            (is_starved d l.goal 0 0 (before ++ u ∷ []) (meets.goals k l at) (enters d l.goal (before ++ u ∷ []))))
        of_number (suc r) is =
            subst (λ x. Beats d (steps + x * (length (conditions d) * most + 1)) before u n) is
            (rounds_left r 0 (omega arith) before u (enters d l.goal before) here)
