-- What stands at an index of a list: numbered, in a range, and first to pass a test.
use Rattle.std.proofs.Common.{◌≡◌, ℕ, zero, suc, ◌+◌, ◌<◌, Some, List, [], ◌∷◌, ◌⊎◌, inl, inr, refl, sym, ap, ◌∙◌, subst, arith}
use Rattle.std.specs.Prelude.{slice_get}
use Rattle.std.specs.List.{enumerate_from, range_with_len}
use Rattle.tm_typing.proofs.Listed.{In, first_of, later_of, is_first_or_later, one_thing, no_thing}

-- what stands in a list stands at an index
pub index_of : {X : Type 0} {x : X} (xs : List X) → In x xs → (k : ℕ) × (slice_get xs k ≡ Some x)
index_of _ (first_of {xs = xs}) = (0, refl)
index_of _ (later_of {y = y} {xs = xs} i) = let found = index_of xs i in (suc found.0, found.1)

-- what stands at an index is numbered so
enumerated : {X : Type 0} {x : X} (n : ℕ) (xs : List X) (k : ℕ) → slice_get xs k ≡ Some x →
    In (n + k, x) (enumerate_from n xs)
enumerated n [] k e = no_thing e
enumerated {X} {x} n (y ∷ ys) zero e =
    let same : n ≡ n + 0 = omega arith in
    let is : y ≡ x = one_thing refl e in
    subst (λ (p : ℕ × X). In p ((n, y) ∷ enumerate_from (n + 1) ys)) (λ i. (same i, is i)) first_of
enumerated {x = x} n (y ∷ ys) (suc k) e =
    let same : n + 1 + k ≡ n + suc k = omega arith in
    later_of (subst (λ m. In (m, x) (enumerate_from (n + 1) ys)) same (enumerated (n + 1) ys k e))

pub in_enumerated : {X : Type 0} {x : X} (xs : List X) (k : ℕ) → slice_get xs k ≡ Some x →
    In (k, x) (enumerate_from 0 xs)
in_enumerated {x = x} xs k e =
    let same : 0 + k ≡ k = omega arith in
    subst (λ m. In (m, x) (enumerate_from 0 xs)) same (enumerated 0 xs k e)

-- and what is numbered so stands there
numbered : {X : Type 0} (n : ℕ) (xs : List X) (p : ℕ × X) → In p (enumerate_from n xs) →
    (k : ℕ) × (p.0 ≡ n + k) × (slice_get xs k ≡ Some p.1)
numbered n [] p i = elim i [ ]
numbered {X} n (x ∷ xs) p i = by (is_first_or_later (enumerate_from (n + 1) xs) i) (numbered (n + 1) xs p)
  where
    by : ((n, x) ≡ p) ⊎ In p (enumerate_from (n + 1) xs) →
        (In p (enumerate_from (n + 1) xs) → (k : ℕ) × (p.0 ≡ n + 1 + k) × (slice_get xs k ≡ Some p.1)) →
        (k : ℕ) × (p.0 ≡ n + k) × (slice_get (x ∷ xs) k ≡ Some p.1)
    by (inl same) deeper =
        let none : n ≡ n + 0 = omega arith in
        (0, sym (ap (λ (q : ℕ × X). q.0) same) ∙ none, ap (λ (q : ℕ × X). Some q.1) same)
    by (inr j) deeper =
        let found = deeper j in
        let on : n + 1 + found.0 ≡ n + suc found.0 = omega arith in
        (suc found.0, found.1 ∙ on, found.2)

pub of_enumerated : {X : Type 0} (xs : List X) (p : ℕ × X) → In p (enumerate_from 0 xs) → slice_get xs p.0 ≡ Some p.1
of_enumerated xs p i =
    let found = numbered 0 xs p i in
    let same : 0 + found.0 ≡ found.0 = omega arith in
    ap (slice_get xs) (found.1 ∙ same) ∙ found.2

-- a number of a range is below its end
pub in_range : (count low k : ℕ) → In k (range_with_len low count) → k < low + count
in_range zero low k i = elim i [ ]
in_range (suc count) low k i = by (is_first_or_later (range_with_len (low + 1) count) i) (in_range count (low + 1) k)
  where
    by : (low ≡ k) ⊎ In k (range_with_len (low + 1) count) →
        (In k (range_with_len (low + 1) count) → k < low + 1 + count) → k < low + suc count
    by (inl same) deeper = omega (arith, same)
    by (inr j) deeper = omega (arith, deeper j)
