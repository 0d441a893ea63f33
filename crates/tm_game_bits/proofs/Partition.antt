-- The weight order has each place once: a list is, in another order, its elements by their values.
use Rattle.std.proofs.Common.{◌≡◌, ℕ, zero, suc, ◌<◌, ◌≤◌, Bool, true, false, cond, eqb, leb, List, [], ◌∷◌, ◌++◌, length, get_or, inl, inr, refl, sym, ap, ◌∙◌, subst, append_assoc, arith}
use Rattle.std.specs.Prelude.{All, sum}
use Rattle.std.specs.List.{filter, flat_map, range_with_len}
use Rattle.std.specs.List.Sorted.{IsPermutation}
use Rattle.std.proofs.lemmas.Bool.{cases_lt, cond-true, cond-false, eq-eqb, ne_eqb, le-leb, lt-leb}
use Rattle.std.proofs.lemmas.List.{append-nil, get_or_past}
use Rattle.std.proofs.lemmas.List.Elements.{All-append, All-head, All-nil, All-cons, All-tail}
use Rattle.std.proofs.lemmas.List.Sorted.{IsPermutation-refl, IsPermutation-trans, IsPermutation-cons, IsPermutation-sym, IsPermutation-middle, IsPermutation-append_comm, IsPermutation-append_left, IsPermutation-append_right}
use Rattle.tm_sem.specs.StateBits.{downwards, weight_order, weights}
use Rattle.tm_game_bits.specs.Order.{IsOrder}
use Rattle.tm_game_bits.proofs.Weights.{length-weights}

-- how two tests split a third
data Splits : Bool → Bool → Bool → Type 0 where
  neither : Splits false false false
  first : Splits true false true
  second : Splits false true true

-- what passes one test, with what passes another, is what passes both tests' union
filter_parts : (p q r : ℕ → Bool) → ((x : ℕ) → Splits (p x) (q x) (r x)) → (xs : List ℕ) →
    IsPermutation (filter r xs) (filter p xs ++ filter q xs)
filter_parts p q r splits [] = IsPermutation-refl []
filter_parts p q r splits (x ∷ xs) = one (p x) (q x) (r x) (splits x) (filter_parts p q r splits xs)
  where
    one : (a b c : Bool) → Splits a b c → IsPermutation (filter r xs) (filter p xs ++ filter q xs) →
        IsPermutation (cond c (x ∷ filter r xs) (filter r xs))
        (cond a (x ∷ filter p xs) (filter p xs) ++ cond b (x ∷ filter q xs) (filter q xs))
    one false false false neither rest = rest
    one true false true first rest = IsPermutation-cons x (filter r xs) (filter p xs ++ filter q xs) rest
    one false true true second rest =
        IsPermutation-trans (x ∷ filter r xs) (x ∷ (filter p xs ++ filter q xs)) (filter p xs ++ x ∷ filter q xs)
        (IsPermutation-cons x (filter r xs) (filter p xs ++ filter q xs) rest)
        (IsPermutation-sym (filter p xs ++ x ∷ filter q xs) (x ∷ (filter p xs ++ filter q xs))
        (IsPermutation-middle (filter p xs) x (filter q xs)))
    one false false true impossible rest = elim impossible [ ]
    one false true false impossible rest = elim impossible [ ]
    one true false false impossible rest = elim impossible [ ]
    one true true c impossible rest = elim impossible [ ]

splits_at : (n x : ℕ) → Splits (eqb x n) (leb (suc n) x) (leb n x)
splits_at n x =
    elim (cases_lt x n) as (λ _. Splits (eqb x n) (leb (suc n) x) (leb n x)) [
      | inl below ↦
          told false false false (ne_eqb x n (λ e. omega (arith, e))) (lt-leb (suc n) x (omega arith))
          (lt-leb n x below) neither
      | inr above ↦
          elim (cases_lt n x) as (λ _. Splits (eqb x n) (leb (suc n) x) (leb n x)) [
            | inl greater ↦
                told false true true (ne_eqb x n (λ e. omega (arith, e))) (le-leb (suc n) x (omega arith))
                (le-leb n x above) second
            | inr least ↦
                told true false true (eq-eqb x n (omega arith)) (lt-leb (suc n) x (omega arith)) (le-leb n x above)
                first
          ]
    ]
  where
    told : (a b c : Bool) → eqb x n ≡ a → leb (suc n) x ≡ b → leb n x ≡ c → Splits a b c →
        Splits (eqb x n) (leb (suc n) x) (leb n x)
    told a b c is_a is_b is_c splits =
        subst (λ (k : Bool). Splits k (leb (suc n) x) (leb n x)) (sym is_a)
        (subst (λ (k : Bool). Splits a k (leb n x)) (sym is_b) (subst (λ (k : Bool). Splits a b k) (sym is_c) splits))

keeps_all : (p : ℕ → Bool) → ((x : ℕ) → p x ≡ true) → (xs : List ℕ) → filter p xs ≡ xs
keeps_all p all [] = refl
keeps_all p all (x ∷ xs) =
    cond-true (p x) (x ∷ filter p xs) (filter p xs) (all x) ∙ ap (λ ys. x ∷ ys) (keeps_all p all xs)

keeps_none : (p : ℕ → Bool) → ((x : ℕ) → p x ≡ false) → (xs : List ℕ) → filter p xs ≡ []
keeps_none p all [] = refl
keeps_none p all (x ∷ xs) =
    cond-false (p x) (x ∷ filter p xs) (filter p xs) (all x) ∙ keeps_none p all xs

-- the elements of a list by their values below a number, the greatest value first
abbrev by_value : (ℕ → ℕ) → List ℕ → ℕ → List ℕ
by_value value xs n = flat_map (λ w. filter (λ x. eqb (value x) w) xs) (downwards n)

-- a list is its elements of small values and those of great ones
parts_by_value : (value : ℕ → ℕ) (xs : List ℕ) (n : ℕ) →
    IsPermutation xs (by_value value xs n ++ filter (λ x. leb n (value x)) xs)
parts_by_value value xs zero =
    subst (λ (ys : List ℕ). IsPermutation xs ys)
    (sym (keeps_all (λ x. leb zero (value x)) (λ x. le-leb zero (value x) (omega arith)) xs)) (IsPermutation-refl xs)
parts_by_value value xs (suc n) =
    let smaller = by_value value xs n in
    let here = filter (λ x. eqb (value x) n) xs in
    let greater = filter (λ x. leb (suc n) (value x)) xs in
    let split = filter_parts (λ x. eqb (value x) n) (λ x. leb (suc n) (value x)) (λ x. leb n (value x))
    (λ x. splits_at n (value x)) xs in
    IsPermutation-trans xs (by_value value xs n ++ filter (λ x. leb n (value x)) xs)
    (by_value value xs (suc n) ++ filter (λ x. leb (suc n) (value x)) xs) (parts_by_value value xs n)
    (IsPermutation-trans (by_value value xs n ++ filter (λ x. leb n (value x)) xs)
    (by_value value xs n ++ (filter (λ x. eqb (value x) n) xs ++ filter (λ x. leb (suc n) (value x)) xs))
    (by_value value xs (suc n) ++ filter (λ x. leb (suc n) (value x)) xs)
    (IsPermutation-append_right (by_value value xs n) (filter (λ x. leb n (value x)) xs)
    (filter (λ x. eqb (value x) n) xs ++ filter (λ x. leb (suc n) (value x)) xs) split)
    (subst (λ (ys : List ℕ).
    IsPermutation ys (by_value value xs (suc n) ++ filter (λ x. leb (suc n) (value x)) xs))
    (append_assoc (by_value value xs n) (filter (λ x. eqb (value x) n) xs) (filter (λ x. leb (suc n) (value x)) xs))
    (IsPermutation-append_left (filter (λ x. leb (suc n) (value x)) xs)
    (by_value value xs n ++ filter (λ x. eqb (value x) n) xs)
    (filter (λ x. eqb (value x) n) xs ++ by_value value xs n)
    (IsPermutation-append_comm (by_value value xs n) (filter (λ x. eqb (value x) n) xs)))))

-- a list whose values are small
pub permutation_by_value : (value : ℕ → ℕ) (xs : List ℕ) (n : ℕ) → ((x : ℕ) → value x < n) →
    IsPermutation xs (by_value value xs n)
permutation_by_value value xs n small =
    subst (λ (ys : List ℕ). IsPermutation xs ys)
    (ap (λ ys. by_value value xs n ++ ys)
    (keeps_none (λ x. leb n (value x)) (λ x. lt-leb n (value x) (small x)) xs) ∙ append-nil (by_value value xs n))
    (parts_by_value value xs n)

downwards_small : (m n : ℕ) → n ≤ m → All (λ x. x < m) (downwards n)
downwards_small m zero le = All-nil (λ x. x < m)
downwards_small m (suc n) le =
    All-cons (λ x. x < m) n (downwards n) (omega arith) (downwards_small m n (omega arith))

weights_small : (m : ℕ) (widths : List ℕ) → All (λ w. w ≤ m) widths → All (λ x. x < m) (weights widths)
weights_small m [] all = All-nil (λ x. x < m)
weights_small m (w ∷ ws) all =
    All-append (λ x. x < m) (downwards w) (weights ws) (downwards_small m w (All-head (λ w. w ≤ m) w ws all))
    (weights_small m ws (All-tail (λ w. w ≤ m) w ws all))

-- a place has a small weight, and one past the end has none
weight_small : (m : ℕ) (widths : List ℕ) → 0 < m → All (λ w. w ≤ m) widths → (place : ℕ) →
    get_or (weights widths) place 0 < m
weight_small m widths some all place =
    elim (cases_lt place (length (weights widths))) as (λ _. get_or (weights widths) place 0 < m) [
      | inl within ↦ weights_small m widths all place 0 within
      | inr past ↦ subst (λ (k : ℕ). k < m) (sym (get_or_past (weights widths) place 0 past)) some
    ]

-- the weight order is an order
pub weight_order_is : (widths : List ℕ) → All (λ w. w ≤ 64) widths → IsOrder (sum widths) (weight_order widths)
weight_order_is widths small =
    subst (λ (k : ℕ). IsPermutation (range_with_len 0 k) (weight_order widths)) (length-weights widths)
    (permutation_by_value (λ place. get_or (weights widths) place 0) (range_with_len 0 (length (weights widths))) 64
    (weight_small 64 widths (omega arith) small))
