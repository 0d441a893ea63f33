-- Ranks fall along a stretch, so it has fewer rounds than its first rank.
use Rattle.std.proofs.Common.{◌≡◌, ℕ, ◌+◌, ◌<◌, ◌≤◌, ◌⊎◌, inl, inr, List, [], ◌∷◌, ◌++◌, get_or, length, refl, ap, subst, arith, append_assoc}
use Rattle.tm_syntax.specs.Design.{DesignTree}
use Rattle.tm_sem.specs.State.{StateData}
use Rattle.tm_sem.specs.Fairness.{conditions, IsFair, IsMetAmong, IsCovered, HasRounds, no_round, one_more}
use Rattle.tm_sem.proofs.Counting.{behind_first}

module _ (d : DesignTree) (rank : StateData → ℕ) (lowers : StateData → Type 0) where
  -- a state waits for a condition: where that holds at a state of the same rank, the rank falls behind it
  pub record Awaits (s : StateData) : Type 0 where
    pub condition : ℕ
    pub within : condition < length (conditions d)
    pub falls : (u : StateData) → rank u ≡ rank s → IsFair d u condition → lowers u

  -- from a state on, ranks never rise, and fall where they have to
  abbrev pub Falls : StateData → List StateData → Type 0
  Falls s [] = Unit {0}
  Falls s (t ∷ ts) = Awaits s × (rank t ≤ rank s) × (lowers s → rank t < rank s) × Falls t ts

  -- along a list of states, ranks never rise, and fall where they have to
  abbrev pub AllFall : List StateData → Type 0
  AllFall [] = Unit {0}
  AllFall (s ∷ ss) = Falls s ss

  -- the last rank is no higher than the first
  falls_to : (s : StateData) (ss : List StateData) (n : StateData) → Falls s (ss ++ n ∷ []) → rank n ≤ rank s
  falls_to s [] n falls = falls.1
  falls_to s (t ∷ ts) n falls = omega (arith, falls.1, falls_to t ts n falls.3)

  -- it is lower, where the rank falls at the first state
  lower_behind : (s : StateData) (ss : List StateData) (n : StateData) → lowers s → Falls s (ss ++ n ∷ []) →
      rank n < rank s
  lower_behind s [] n now falls = falls.2 now
  lower_behind s (t ∷ ts) n now falls = omega (arith, falls.2 now, falls_to t ts n falls.3)

  -- what holds from a state on holds from a later one on
  falls_from : (s : StateData) (ss before : List StateData) (u : StateData) (after : List StateData) (n : StateData) →
      s ∷ ss ≡ before ++ u ∷ after → Falls s (ss ++ n ∷ []) → (rank u ≤ rank s) × Falls u (after ++ n ∷ [])
  falls_from s ss [] u after n same falls =
      let head : s ≡ u = ap (λ xs. get_or xs 0 s) same in
      let rest : ss ≡ after = ap behind_first same in (
        subst (λ x. rank x ≤ rank s) head (omega arith),
        subst (λ (xs : List StateData). Falls u (xs ++ n ∷ [])) rest
            (subst (λ x. Falls x (ss ++ n ∷ [])) head falls),
      )
  falls_from s [] (b ∷ bs) u after n same falls = absurd (none_behind bs (ap behind_first same))
    where
      none_behind : (bs : List StateData) → [] ≡ bs ++ u ∷ after → ⊥
      none_behind [] is = cc
      none_behind (c ∷ cs) is = cc
  falls_from s (t ∷ ts) (b ∷ bs) u after n same falls =
      let later = falls_from t ts bs u after n (ap behind_first same) falls.3 in
      (omega (arith, falls.1, later.0), later.1)

  -- behind a part that meets every condition the rank is lower than at its first state
  lower_behind_part : (s : StateData) (ss : List StateData) (n : StateData) → Awaits s → IsCovered d (s ∷ ss) →
      Falls s (ss ++ n ∷ []) → rank n < rank s
  lower_behind_part s ss n waits covered falls = of_met (covered waits.condition waits.within)
    where
      of_met : IsMetAmong d (s ∷ ss) waits.condition → rank n < rank s
      of_met met =
          let later = falls_from s ss met.0 met.2 met.1 n met.3 falls in
          of_rank later (cases (rank met.2) (rank s) later.0)
        where
          cases : (a b : ℕ) → a ≤ b → (a ≡ b) ⊎ (a < b)
          cases a b h = grind arith

          of_rank : (rank met.2 ≤ rank s) × Falls met.2 (met.1 ++ n ∷ []) →
              (rank met.2 ≡ rank s) ⊎ (rank met.2 < rank s) → rank n < rank s
          of_rank later (inl same) =
              omega (arith, same, lower_behind met.2 met.1 n (waits.falls met.2 same met.4) later.1)
          of_rank later (inr lower) = omega (arith, lower, falls_to met.2 met.1 n later.1)

  -- a list that falls, cut in front of one of its states
  cut : (front : List StateData) (s : StateData) (ss : List StateData) → AllFall (front ++ s ∷ ss) →
      AllFall (front ++ s ∷ []) × Falls s ss
  cut [] s ss falls = (tt, falls)
  cut (a ∷ []) s ss falls = ((falls.0, falls.1, falls.2, tt), falls.3)
  cut (a ∷ b ∷ front) s ss falls =
      let rest = cut (b ∷ front) s ss falls.3 in
      ((falls.0, falls.1, falls.2, rest.0), rest.1)

  first_waits : (s : StateData) (ss : List StateData) (n : StateData) → Falls s (ss ++ n ∷ []) → Awaits s
  first_waits s [] n falls = falls.0
  first_waits s (t ∷ ts) n falls = falls.0

  -- the first of a list, or what stands behind it
  abbrev pub first_or : List StateData → StateData → StateData
  first_or [] n = n
  first_or (s ∷ ss) n = s

  first_of_front : (front : List StateData) (s : StateData) (ss : List StateData) (n : StateData) →
      first_or (front ++ s ∷ ss) n ≡ first_or front s
  first_of_front [] s ss n = refl
  first_of_front (a ∷ front) s ss n = refl

  none_covered : 0 < length (conditions d) → IsCovered d [] → ⊥
  none_covered some covered = of_met (covered 0 some)
    where
      of_met : IsMetAmong d [] 0 → ⊥
      of_met met = empty met.0 met.3
        where
          empty : (before : List StateData) → [] ≡ before ++ met.2 ∷ met.1 → ⊥
          empty [] is = cc
          empty (b ∷ bs) is = cc

  -- each round costs a rank
  pub rounds_cost_ranks : {k : ℕ} {stretch : List StateData} (n : StateData) → 0 < length (conditions d) →
      HasRounds d k stretch → AllFall (stretch ++ n ∷ []) → k + rank n ≤ rank (first_or stretch n)
  rounds_cost_ranks n some (no_round []) falls = omega arith
  rounds_cost_ranks n some (no_round (s ∷ ss)) falls = omega (arith, falls_to s ss n falls)
  rounds_cost_ranks n some (one_more [] rounds covered) falls = absurd (none_covered some covered)
  rounds_cost_ranks n some (one_more {n = k} {front = front} (s ∷ ss) rounds covered) falls =
      let parts = cut front s (ss ++ n ∷ []) (subst AllFall (append_assoc front (s ∷ ss) (n ∷ [])) falls) in
      let before : k + rank s ≤ rank (first_or front s) = rounds_cost_ranks s some rounds parts.0 in
      let lower : rank n < rank s = lower_behind_part s ss n (first_waits s ss n parts.1) covered parts.1 in
      let same : rank (first_or (front ++ s ∷ ss) n) ≡ rank (first_or front s) =
      ap rank (first_of_front front s ss n) in
      omega (arith, before, lower, same)
