-- Products of counts that stop at a greatest number.
use Rattle.std.proofs.Common.{◌≡◌, ℕ, zero, suc, ◌*◌, ◌≤◌, ◌<◌, sym, ap, ◌∙◌, arith, inl, inr}
use Rattle.std.specs.Prelude.{◌⊎◌, min}
use Rattle.std.proofs.Math.Nat.{mul-suc, suc-mul}

-- a number is at most or above another one
either : (m n : ℕ) → (m ≤ n) ⊎ (n < m)
either zero n = inl (omega arith)
either (suc m) zero = inr (omega arith)
either (suc m) (suc n) = by (either m n)
  where
    by : (m ≤ n) ⊎ (n < m) → (suc m ≤ suc n) ⊎ (suc n < suc m)
    by (inl h) = inl (omega arith)
    by (inr h) = inr (omega arith)

least : (m n : ℕ) → m ≤ n → min m n ≡ m
least m n h = omega arith

greatest : (m n : ℕ) → n ≤ m → min m n ≡ n
greatest m n h = omega arith

-- a product is at least its first factor, unless the second is 0
at_least : (m n : ℕ) → 1 ≤ n → m ≤ m * n
at_least m zero h = absurd (omega arith)
at_least m (suc n) h = let e = mul-suc m n in omega (arith, e)

times_zero : (m : ℕ) → m * 0 ≡ 0
times_zero m = omega arith

zero_times : (m : ℕ) → 0 * m ≡ 0
zero_times m = omega arith

-- likewise for the first factor
at_least_second : (m n : ℕ) → n ≤ suc m * n
at_least_second m n = let e = suc-mul m n in omega (arith, e)

-- the product of two counts that stop stops where the product of the counts does
pub product_stops : (top m n : ℕ) → 1 ≤ top → min (min m top * min n top) top ≡ min (m * n) top
product_stops top m n some = by (either m top) (either n top)
  where
    by_second : (n : ℕ) → top < m → min (min m top * min n top) top ≡ min (m * n) top
    by_second zero h =
        let none : min zero top ≡ 0 = omega arith in
        ap (λ k. min (min m top * k) top) none ∙ ap (λ k. min k top) (times_zero (min m top))
        ∙ sym (ap (λ k. min k top) (times_zero m))
    by_second (suc n) h =
        let left = at_least (min m top) (min (suc n) top) (omega arith) in
        let right = at_least m (suc n) (omega arith) in
        let whole : min m top ≡ top = greatest m top (omega arith) in
        greatest (min m top * min (suc n) top) top (omega arith)
        ∙ sym (greatest (m * suc n) top (omega arith))

    by_first : (m : ℕ) → top < n → m ≤ top → min (min m top * min n top) top ≡ min (m * n) top
    by_first zero h short =
        let none : min zero top ≡ 0 = omega arith in
        ap (λ k. min (k * min n top) top) none
        ∙ ap (λ k. min k top) (zero_times (min n top)) ∙ sym (ap (λ k. min k top) (zero_times n))
    by_first (suc m) h short =
        let same : min (suc m) top ≡ suc m = least (suc m) top short in
        let whole : min n top ≡ top = greatest n top (omega arith) in
        ap (λ k. min (k * min n top) top) same
        ∙ ap (λ k. min (suc m * k) top) whole
        ∙ greatest (suc m * top) top (at_least_second m top)
        ∙ sym (greatest (suc m * n) top (let below = at_least_second m n in omega arith))

    by : (m ≤ top) ⊎ (top < m) → (n ≤ top) ⊎ (top < n) → min (min m top * min n top) top ≡ min (m * n) top
    by (inl g) (inl h) =
        ap (λ k. min (k * min n top) top) (least m top g) ∙ ap (λ k. min (m * k) top) (least n top h)
    by (inl g) (inr h) = by_first m h g
    by (inr g) _ = by_second n g
