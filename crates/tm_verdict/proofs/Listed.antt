-- What holds of all of a list that is made of others.
use Rattle.std.proofs.Common.{◌≡◌, ◌⊎◌, inl, inr, ℕ, zero, suc, ◌+◌, ◌<◌, ◌≤◌, List, [], ◌∷◌, ◌++◌, map, subst, arith}
use Rattle.std.proofs.Math.Nat.{eq-or-lt_of_le}
use Rattle.std.specs.List.{AllByRecursion, flat_map, range_with_len}

module _ {A : Type 0} (P : A → Type 0) where
  pub all_join : (xs ys : List A) → AllByRecursion P xs → AllByRecursion P ys → AllByRecursion P (xs ++ ys)
  all_join [] ys first second = second
  all_join (x ∷ xs) ys first second = (first.0, all_join xs ys first.1 second)

  pub all_first : (xs ys : List A) → AllByRecursion P (xs ++ ys) → AllByRecursion P xs
  all_first [] ys all = tt
  all_first (x ∷ xs) ys all = (all.0, all_first xs ys all.1)

  pub all_second : (xs ys : List A) → AllByRecursion P (xs ++ ys) → AllByRecursion P ys
  all_second [] ys all = all
  all_second (x ∷ xs) ys all = all_second xs ys all.1

  pub all_mapped : {X : Type 0} (f : X → A) (xs : List X) → AllByRecursion (λ x. P (f x)) xs →
      AllByRecursion P (map f xs)
  all_mapped f [] all = tt
  all_mapped f (x ∷ xs) all = (all.0, all_mapped f xs all.1)

  pub each_mapped : {X : Type 0} (f : X → A) (xs : List X) → AllByRecursion P (map f xs) →
      AllByRecursion (λ x. P (f x)) xs
  each_mapped f [] all = tt
  each_mapped f (x ∷ xs) all = (all.0, each_mapped f xs all.1)

  pub all_flat : {X : Type 0} (f : X → List A) (xs : List X) → AllByRecursion (λ x. AllByRecursion P (f x)) xs →
      AllByRecursion P (flat_map f xs)
  all_flat f [] all = tt
  all_flat f (x ∷ xs) all = all_join (f x) (flat_map f xs) all.0 (all_flat f xs all.1)

  pub each_flat : {X : Type 0} (f : X → List A) (xs : List X) → AllByRecursion P (flat_map f xs) →
      AllByRecursion (λ x. AllByRecursion P (f x)) xs
  each_flat f [] all = tt
  each_flat f (x ∷ xs) all =
      (all_first (f x) (flat_map f xs) all, each_flat f xs (all_second (f x) (flat_map f xs) all))

module _ (P : ℕ → Type 0) where
  -- all numbers from one on
  all_from : (a n : ℕ) → ((i : ℕ) → a ≤ i → i < a + n → P i) → AllByRecursion P (range_with_len a n)
  all_from a zero each = tt
  all_from a (suc n) each =
      (each a (omega arith) (omega arith), all_from (a + 1) n (λ i low high. each i (omega arith) (omega arith)))

  pub all_below : (n : ℕ) → ((i : ℕ) → i < n → P i) → AllByRecursion P (range_with_len 0 n)
  all_below n each = all_from 0 n (λ i low high. each i (omega arith))

  each_from : (a n : ℕ) → AllByRecursion P (range_with_len a n) → (i : ℕ) → a ≤ i → i < a + n → P i
  each_from a zero all i low high = absurd (omega arith)
  each_from a (suc n) all i low high =
      at (λ later. each_from (a + 1) n all.1 i later (omega arith)) (eq-or-lt_of_le low)
    where
      at : (a + 1 ≤ i → P i) → (a ≡ i) ⊎ (a < i) → P i
      at behind (inl same) = subst P same all.0
      at behind (inr later) = behind (omega arith)

  pub each_below : (n : ℕ) → AllByRecursion P (range_with_len 0 n) → (i : ℕ) → i < n → P i
  each_below n all i low = each_from 0 n all i (omega arith) (omega arith)
