-- A driver's certificate is one exactly where each part of its conditions passes.
use Rattle.std.proofs.Common.{◌≡◌, ◌⊎◌, inl, inr, ℕ, ◌<◌, ◌≤◌, Option, None, Some, List, get_or, map, length, slice_get, sym, subst, arith}
use Rattle.std.specs.Option.{option_map_or}
use Rattle.std.specs.List.{AllByRecursion, range_with_len}
use Rattle.std.proofs.lemmas.Option.{slice_get_cases, slice_get_within}
use Rattle.tm_syntax.specs.Design.{DesignTree}
use Rattle.tm_sem.specs.declared.state.Move.{Move}
use Rattle.tm_sem.specs.State.{StateData}
use Rattle.tm_sem.specs.Certificates.{AddsState, AreRanked, C0, DriverSets, MeetsDriver, RankedSet, WaitForConditions}
use Rattle.tm_verdict.specs.Driver.{DriverPart, Passes, adds_state, driver_parts, driver_parts_by_condition, falls_when_fair, goal_parts, goals_of, is_answered, is_ranked, lies_within, never_rises, region_parts}
use Rattle.tm_verdict.proofs.Listed.{all_below, all_flat, all_mapped, each_below, each_flat, each_mapped}

-- how many ranked regions there are of this option
abbrev count_of : Option (List RankedSet) → ℕ
count_of o = option_map_or (λ (ranked : List RankedSet). length ranked) o 0

module _ (d : DesignTree) (answers : StateData → ℕ → Move → Type 0) (c : DriverSets) where
  abbrev P : DriverPart → Type 0
  P = Passes d answers c

  region_passes : C0 d c → (goal k : ℕ) → k < count_of (slice_get c.goals goal) →
      P (lies_within goal k) × P (adds_state goal k)
  region_passes c0 goal k low = (λ ranked r is at. (c0 goal k ranked r is at).0, adds)
    where
      there : (ranked : List RankedSet) → AreRanked c goal ranked → k < length ranked →
          (slice_get ranked k ≡ slice_get ranked k) × (((r : RankedSet) × (k < length ranked)
          × (slice_get ranked k ≡ Some r) × (get_or ranked k r ≡ r))
          ⊎ ((length ranked ≤ k) × (slice_get ranked k ≡ None))) → AddsState d ranked k
      there ranked is within (same, inl (r, low, at, got)) = (c0 goal k ranked r is at).1
      there ranked is within (same, inr (past, none)) = absurd (omega arith)

      adds : (ranked : List RankedSet) → AreRanked c goal ranked → AddsState d ranked k
      adds ranked is = there ranked is (subst (λ o. k < count_of o) is low) (slice_get_cases ranked k)

  regions_pass : C0 d c → (goal : ℕ) → AllByRecursion P (goal_parts c goal)
  regions_pass c0 goal =
      all_flat P (region_parts goal) (range_with_len 0 (count_of (slice_get c.goals goal)))
      (all_below (λ k. AllByRecursion P (region_parts goal k)) (count_of (slice_get c.goals goal))
      (λ k low. let both = region_passes c0 goal k low in (both.0, (both.1, tt))))

  pub parts_pass : length c.goals ≡ length d.goals → MeetsDriver d answers c → AllByRecursion P (driver_parts c)
  parts_pass same meets =
      let at_goals = all_below (λ goal. AllByRecursion P (goal_parts c goal)) (length c.goals)
      (λ goal low. regions_pass meets.c0 goal) in
      let ranked = all_below (λ goal. P (is_ranked goal)) (length c.goals)
      (λ goal low s ranked within is. meets.c2 s goal ranked within is) in
      let answered = all_below (λ goal. P (is_answered goal)) (length c.goals)
      (λ goal low s move within turn is. meets.c4 s goal move within (subst (λ n. goal < n) same low) turn is) in
      let no_rise = all_below (λ goal. P (never_rises goal)) (length c.goals)
      (λ goal low s t ranked move choices within is fails made step.
      meets.c5 s t goal ranked move choices within is fails made step) in
      let fall = all_below (λ goal. P (falls_when_fair goal)) (length c.goals)
      (λ goal low s t ranked move choices within is fails fair made step.
      meets.c6 s t goal ranked move choices within is fails fair made step) in
      all_flat P (λ parts. parts) (driver_parts_by_condition c) (
        all_flat P (goal_parts c) (goals_of c) at_goals,
        (
          (meets.c1, tt),
          (
            all_mapped P is_ranked (goals_of c) ranked,
            (
              (meets.c3, tt),
              (
                all_mapped P is_answered (goals_of c) answered,
                (all_mapped P never_rises (goals_of c) no_rise, (all_mapped P falls_when_fair (goals_of c) fall, tt)),
              ),
            ),
          ),
        ),
      )

  -- what passes at each goal
  at_goal : (part : ℕ → DriverPart) → AllByRecursion P (map part (goals_of c)) → (goal : ℕ) →
      goal < length c.goals → P (part goal)
  at_goal part all goal low =
      each_below (λ g. P (part g)) (length c.goals) (each_mapped P part (goals_of c) all) goal low

  -- and at each ranked region
  at_region : AllByRecursion (λ goal. AllByRecursion P (goal_parts c goal)) (goals_of c) → (goal k : ℕ)
      (ranked : List RankedSet) → AreRanked c goal ranked → k < length ranked →
      P (lies_within goal k) × P (adds_state goal k)
  at_region all goal k ranked is low =
      let of_goal = each_below (λ g. AllByRecursion P (goal_parts c g)) (length c.goals) all goal
      (slice_get_within c.goals goal ranked is) in
      let both = each_below (λ x. AllByRecursion P (region_parts goal x)) (count_of (slice_get c.goals goal))
      (each_flat P (region_parts goal) (range_with_len 0 (count_of (slice_get c.goals goal))) of_goal) k
      (subst (λ o. k < count_of o) (sym is) low) in
      (both.0, both.1.0)

  pub meets_of_parts : length c.goals ≡ length d.goals → WaitForConditions d c → AllByRecursion P (driver_parts c) →
      MeetsDriver d answers c
  meets_of_parts same waits all =
      let each = each_flat P (λ parts. parts) (driver_parts_by_condition c) all in
      let regions = at_region (each_flat P (goal_parts c) (goals_of c) each.0) in
      record {
        goals = same;
        fairs = waits;
        c0 = λ goal k ranked r is at.
            let both = regions goal k ranked is (slice_get_within ranked k r at) in
            (both.0 ranked r is at, both.1 ranked is);
        c1 = each.1.0.0;
        c2 = λ s goal ranked within is.
            at_goal is_ranked each.1.1.0 goal (slice_get_within c.goals goal ranked is) s ranked within is;
        c3 = each.1.1.1.0.0;
        c4 = λ s goal move within low turn is.
            at_goal is_answered each.1.1.1.1.0 goal (subst (λ n. goal < n) (sym same) low) s move within turn is;
        c5 = λ s t goal ranked move choices within is fails made step.
            at_goal never_rises each.1.1.1.1.1.0 goal (slice_get_within c.goals goal ranked is) s t ranked move choices
            within is fails made step;
        c6 = λ s t goal ranked move choices within is fails fair made step.
            at_goal falls_when_fair each.1.1.1.1.1.1.0 goal (slice_get_within c.goals goal ranked is) s t ranked move
            choices within is fails fair made step;
      }
