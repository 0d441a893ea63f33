-- A stretch has as many rounds as it has parts, one behind the other, that meet every condition.
use Rattle.std.proofs.Common.{◌≡◌, ℕ, suc, ◌≤◌, ◌⊎◌, inl, inr, List, [], ◌∷◌, ◌++◌, get_or, refl, sym, ap, ◌∙◌, subst, arith, append_assoc}
use Rattle.tm_syntax.specs.Design.{DesignTree}
use Rattle.tm_sem.specs.State.{StateData}
use Rattle.tm_sem.specs.Fairness.{IsMetAmong, IsCovered, Rounds, unfinished, round, HasRounds, no_round, one_more}

module _ (d : DesignTree) where
  -- what is met in a part is met in what it is a part of
  pub met_behind : (i : ℕ) (front part : List StateData) → IsMetAmong d part i → IsMetAmong d (front ++ part) i
  met_behind i front part met = (
    front ++ met.0,
    met.1,
    met.2,
    ap (λ l. front ++ l) met.3 ∙ sym (append_assoc front met.0 (met.2 ∷ met.1)),
    met.4,
  )

  pub met_before : (i : ℕ) (part rest : List StateData) → IsMetAmong d part i → IsMetAmong d (part ++ rest) i
  met_before i part rest met = (
    met.0,
    met.1 ++ rest,
    met.2,
    ap (λ l. l ++ rest) met.3 ∙ append_assoc met.0 (met.2 ∷ met.1) rest,
    met.4,
  )

  -- a part that is covered, with what stands in front of it
  pub covered_behind : (front part : List StateData) → IsCovered d part → IsCovered d (front ++ part)
  covered_behind front part covered = λ i below. met_behind i front part (covered i below)

  -- a part that is covered, with what stands behind it
  pub covered_before : (part rest : List StateData) → IsCovered d part → IsCovered d (part ++ rest)
  covered_before part rest covered = λ i below. met_before i part rest (covered i below)

  -- a covered part in front of a stretch is a round more
  round_in_front : {n : ℕ} (part rest : List StateData) → IsCovered d part → HasRounds d n rest →
      HasRounds d (suc n) (part ++ rest)
  round_in_front part rest covered (no_round _) =
      one_more (part ++ rest) (no_round []) (covered_before part rest covered)
  round_in_front part _ covered (one_more {n = n} {front = first} last rounds more) =
      subst (HasRounds d (suc (suc n))) (append_assoc part first last)
      (one_more last (round_in_front part first covered rounds) more)

  -- the rounds of a stretch are parts of it
  pub rounds_are_parts : {n : ℕ} {stretch : List StateData} → Rounds d n stretch → HasRounds d n stretch
  rounds_are_parts {stretch = stretch} (unfinished left) = no_round stretch
  rounds_are_parts (round front last {rest = rest} before covered rounds) =
      subst (HasRounds d _) (append_assoc front (last ∷ []) rest)
      (round_in_front (front ++ last ∷ []) rest covered (rounds_are_parts rounds))

-- what stands behind the first item of a list
abbrev pub behind_first : {X : Type 0} → List X → List X
behind_first [] = []
behind_first (x ∷ xs) = xs

-- two splits of one list: the first front ends before the item, or holds it
abbrev pub SplitAt : List StateData → List StateData → List StateData → StateData → List StateData → Type 0
SplitAt x y f l r =
    ((gap : List StateData) × (f ≡ x ++ gap)) ⊎ ((gap : List StateData) × (x ≡ f ++ l ∷ gap) × (r ≡ gap ++ y))

pub split_at : (x y f : List StateData) (l : StateData) (r : List StateData) → x ++ y ≡ f ++ l ∷ r → SplitAt x y f l r
split_at [] y f l r same = inl (f, refl)
split_at (a ∷ x) y [] l r same =
    let head : a ≡ l = ap (λ xs. get_or xs 0 a) same in
    inr (x, ap (λ h. h ∷ x) head, sym (ap behind_first same))
split_at (a ∷ x) y (b ∷ f) l r same =
    let head : a ≡ b = ap (λ xs. get_or xs 0 a) same in
    of_tails head (split_at x y f l r (ap behind_first same))
  where
    of_tails : a ≡ b → SplitAt x y f l r → SplitAt (a ∷ x) y (b ∷ f) l r
    of_tails head (inl s) = inl (s.0, λ i. sym head i ∷ s.1 i)
    of_tails head (inr s) = inr (s.0, (λ i. head i ∷ s.1 i), s.2)

module _ (d : DesignTree) where
  -- where a stretch begins with states that meet not every condition and one more, the rest has all rounds but one
  drop_first : {n : ℕ} (front part before : List StateData) (last : StateData) (rest : List StateData) →
      ¬ IsCovered d before → HasRounds d n front → IsCovered d part → front ++ part ≡ before ++ last ∷ rest →
      HasRounds d n rest
  drop_first front part before last rest few (no_round _) covered same = no_round rest
  drop_first _ part before last rest few (one_more {n = n} {front = first} mid rounds more) covered same =
      of_split (λ gap is. drop_first first mid before last gap few rounds more is)
      (split_at (first ++ mid) part before last rest same)
    where
      of_split : ((gap : List StateData) → first ++ mid ≡ before ++ last ∷ gap → HasRounds d n gap) →
          SplitAt (first ++ mid) part before last rest → HasRounds d (suc n) rest
      of_split next (inl s) =
          absurd (few (subst (IsCovered d) (sym s.1)
          (covered_before d (first ++ mid) s.0 (covered_behind d first mid more))))
      of_split next (inr s) = subst (HasRounds d (suc n)) (sym s.2) (one_more part (next s.0 s.1) covered)

  none_without : {k : ℕ} {stretch : List StateData} → HasRounds d k stretch → ¬ IsCovered d stretch → k ≤ 0
  none_without (no_round _) few = omega arith
  none_without (one_more {front = front} part rounds covered) few =
      absurd (few (covered_behind d front part covered))

  most_of : {n k : ℕ} {stretch same_stretch : List StateData} → Rounds d n stretch → HasRounds d k same_stretch →
      same_stretch ≡ stretch → k ≤ n
  most_of (unfinished few) parts same = none_without (subst (HasRounds d _) same parts) few
  most_of (round front last {rest = rest} few covered rounds) (no_round _) same = omega arith
  most_of (round {n = n} front last {rest = rest} few covered rounds)
      (one_more {n = m} {front = first} part before more) same =
      let fewer : m ≤ n = most_of rounds (drop_first first part front last rest few before more same) refl in
      omega arith

  -- a stretch has no more such parts than it has rounds
  pub rounds_are_most : {n k : ℕ} {stretch : List StateData} → Rounds d n stretch → HasRounds d k stretch → k ≤ n
  rounds_are_most rounds parts = most_of rounds parts refl
