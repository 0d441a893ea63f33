-- Each stretch has a number of rounds: a round ends as soon as each condition was met, and what is left over has none.
use Rattle.std.proofs.Common.{◌≡◌, ℕ, zero, suc, ◌<◌, ◌≤◌, ◌⊎◌, inl, inr, List, [], ◌∷◌, ◌++◌, length, get_or, refl, sym, ap, subst, arith, append_assoc, append-nil}
use Rattle.std.specs.List.{AllByRecursion}
use Rattle.tm_syntax.specs.Design.{DesignTree}
use Rattle.tm_sem.specs.State.{StateData}
use Rattle.tm_sem.specs.Fairness.{conditions, IsFair, IsFairOrNot, IsMetAmong, IsCovered, Rounds, unfinished, round}
use Rattle.tm_sem.proofs.Counting.{behind_first, met_behind, rounds_are_parts, rounds_are_most}

all_both : (P : StateData → Type 0) (xs ys : List StateData) → AllByRecursion P xs → AllByRecursion P ys →
    AllByRecursion P (xs ++ ys)
all_both P [] ys first others = others
all_both P (x ∷ xs) ys first others = (first.0, all_both P xs ys first.1 others)

module _ (d : DesignTree) where
  -- no state meets no condition, and the driver's is always one
  met_by_none : (i : ℕ) → IsMetAmong d [] i → ⊥
  met_by_none i met = of_front met.0 met.1 met.2 met.3
    where
      of_front : (before after : List StateData) (s : StateData) → [] ≡ before ++ s ∷ after → ⊥
      of_front [] after s same = cc same
      of_front (b ∷ bs) after s same = cc same

  covered_by_none : ¬ IsCovered d []
  covered_by_none covered = met_by_none 0 (covered 0 (omega arith))

  -- the walk along a stretch, for each way of telling whether a part of it is covered
  module _ (P : StateData → Type 0) (R : Type 0)
      (told : (part : List StateData) → AllByRecursion P part → (IsCovered d part ⊎ (¬ IsCovered d part) → R) → R) where
    rounds_from : (front rest : List StateData) → AllByRecursion P front → AllByRecursion P rest →
        ¬ IsCovered d front → ((n : ℕ) → Rounds d n (front ++ rest) → R) → R
    rounds_from front [] before behind few give =
        give 0 (unfinished (λ covered. few (subst (IsCovered d) (append-nil front) covered)))
    rounds_from front (s ∷ rest) before behind few give =
        told (front ++ s ∷ []) longer
        (by (λ end. rounds_from [] rest tt behind.1 covered_by_none end)
        (λ few end. rounds_from (front ++ s ∷ []) rest longer behind.1 few end))
      where
        longer : AllByRecursion P (front ++ s ∷ [])
        longer = all_both P front (s ∷ []) before (behind.0, tt)

        by : (((n : ℕ) → Rounds d n rest → R) → R) →
            (¬ IsCovered d (front ++ s ∷ []) → ((n : ℕ) → Rounds d n ((front ++ s ∷ []) ++ rest) → R) → R) →
            IsCovered d (front ++ s ∷ []) ⊎ (¬ IsCovered d (front ++ s ∷ [])) → R
        by anew on (inl covered) = anew (λ n rounds. give (suc n) (round front s few covered rounds))
        by anew on (inr fewer) =
            on fewer (λ n rounds. give n (subst (Rounds d n) (append_assoc front (s ∷ []) rest) rounds))

  all_units : (states : List StateData) → AllByRecursion (λ _. Unit {0}) states
  all_units [] = tt
  all_units (s ∷ rest) = (tt, all_units rest)

  -- no stretch is without a number of rounds
  pub some_number : (stretch : List StateData) → ¬ ((n : ℕ) → ¬ Rounds d n stretch)
  some_number stretch none =
      rounds_from (λ _. Unit {0}) ⊥ (λ part _ on. on (inr (λ covered. on (inl covered)))) [] stretch tt
      (all_units stretch) covered_by_none none

  met_or_not : (i : ℕ) (part : List StateData) → AllByRecursion (IsFairOrNot d) part →
      IsMetAmong d part i ⊎ (¬ IsMetAmong d part i)
  met_or_not i [] decides = inr (met_by_none i)
  met_or_not i (s ∷ rest) decides = by (decides.0 i) (met_or_not i rest decides.1)
    where
      neither : (¬ IsFair d s i) → (¬ IsMetAmong d rest i) → (before after : List StateData) (t : StateData) →
          s ∷ rest ≡ before ++ t ∷ after → IsFair d t i → ⊥
      neither unfair unmet [] after t same fair =
          unfair (subst (λ u. IsFair d u i) (sym (ap (λ xs. get_or xs 0 s) same)) fair)
      neither unfair unmet (b ∷ bs) after t same fair = unmet (bs, after, t, ap behind_first same, fair)

      by : IsFair d s i ⊎ (¬ IsFair d s i) → IsMetAmong d rest i ⊎ (¬ IsMetAmong d rest i) →
          IsMetAmong d (s ∷ rest) i ⊎ (¬ IsMetAmong d (s ∷ rest) i)
      by (inl fair) later = inl ([], rest, s, refl, fair)
      by (inr unfair) (inl met) = inl (met_behind d i (s ∷ []) rest met)
      by (inr unfair) (inr unmet) = inr (λ met. neither unfair unmet met.0 met.1 met.2 met.3 met.4)

  -- the first of the conditions are met in a part or not
  first_met_or_not : (k : ℕ) (part : List StateData) → AllByRecursion (IsFairOrNot d) part →
      ((i : ℕ) → i < k → IsMetAmong d part i) ⊎ (¬ ((i : ℕ) → i < k → IsMetAmong d part i))
  first_met_or_not zero part decides = inl (λ i below. absurd (omega (arith, below)))
  first_met_or_not (suc k) part decides = by (first_met_or_not k part decides) (met_or_not k part decides)
    where
      below_or_last : (i : ℕ) → i < suc k → (i < k) ⊎ (i ≡ k)
      below_or_last i below = grind (arith, below)

      each : ((i : ℕ) → i < k → IsMetAmong d part i) → IsMetAmong d part k → (i : ℕ) → (i < k) ⊎ (i ≡ k) →
          IsMetAmong d part i
      each met last i (inl below) = met i below
      each met last i (inr same) = subst (IsMetAmong d part) (sym same) last

      by : ((i : ℕ) → i < k → IsMetAmong d part i) ⊎ (¬ ((i : ℕ) → i < k → IsMetAmong d part i)) →
          IsMetAmong d part k ⊎ (¬ IsMetAmong d part k) →
          ((i : ℕ) → i < suc k → IsMetAmong d part i) ⊎ (¬ ((i : ℕ) → i < suc k → IsMetAmong d part i))
      by (inr few) last = inr (λ met. few (λ i below. met i (omega (arith, below))))
      by (inl met) (inr unmet) = inr (λ all. unmet (all k (omega arith)))
      by (inl met) (inl last) = inl (λ i below. each met last i (below_or_last i below))

  covered_or_not : (part : List StateData) → AllByRecursion (IsFairOrNot d) part →
      IsCovered d part ⊎ (¬ IsCovered d part)
  covered_or_not part decides = first_met_or_not (length (conditions d)) part decides

  -- where it is known of each state which conditions hold there, the stretch has a number of rounds
  pub number_of_rounds : (stretch : List StateData) → AllByRecursion (IsFairOrNot d) stretch →
      (n : ℕ) × Rounds d n stretch
  number_of_rounds stretch decides =
      rounds_from (IsFairOrNot d) ((n : ℕ) × Rounds d n stretch) (λ part known on. on (covered_or_not part known)) []
      stretch tt decides covered_by_none (λ n rounds. (n, rounds))

  -- and no other one
  pub one_number : (n k : ℕ) (stretch : List StateData) → Rounds d n stretch → Rounds d k stretch → n ≡ k
  one_number n k stretch one other =
      let more : n ≤ k = rounds_are_most d other (rounds_are_parts d one) in
      let fewer : k ≤ n = rounds_are_most d one (rounds_are_parts d other) in
      omega (arith, more, fewer)
