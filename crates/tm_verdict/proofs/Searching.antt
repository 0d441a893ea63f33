-- A search through all lists of so many bits.
use Rattle.std.proofs.Common.{◌≡◌, ℕ, zero, suc, ◌<◌, ◌⊎◌, inl, inr, Bool, true, false, List, [], ◌∷◌, length, refl, ap, subst, arith}
use Rattle.std.specs.Prelude.{slice_index}

-- so many bits
pub record AreSome (n : ℕ) (bits : List ℕ) : Type 0 where
  pub count : length bits ≡ n
  pub each : (k : ℕ) → slice_index bits k < 2

-- a test holds of some list of so many bits
abbrev pub IsFound : ℕ → (List ℕ → Bool) → Type 0
IsFound n test = (bits : List ℕ) × AreSome n bits × (test bits ≡ true)

-- it holds of none
abbrev pub IsNowhere : ℕ → (List ℕ → Bool) → Type 0
IsNowhere n test = (bits : List ℕ) → AreSome n bits → test bits ≡ false

in_front : (b : ℕ) (bits : List ℕ) → b < 2 → ((k : ℕ) → slice_index bits k < 2) → (k : ℕ) →
    slice_index (b ∷ bits) k < 2
in_front b bits small each zero = small
in_front b bits small each (suc k) = each k

one_more : (n b : ℕ) (bits : List ℕ) → b < 2 → AreSome n bits → AreSome (suc n) (b ∷ bits)
one_more n b bits small are =
    record { count = ap suc are.count; each = in_front b bits small are.each }

one_less : (n b : ℕ) (bits : List ℕ) → AreSome (suc n) (b ∷ bits) → AreSome n bits
one_less n b bits are = record { count = omega (arith, are.count); each = λ k. are.each (suc k) }

no_bits : AreSome 0 []
no_bits = record { count = refl; each = λ k. omega arith }

none_left : (test : List ℕ → Bool) → test [] ≡ false → IsNowhere 0 test
none_left test is [] are = is
none_left test is (b ∷ bits) are = absurd (omega (arith, are.count))

neither : (n : ℕ) (test : List ℕ → Bool) → IsNowhere n (λ bits. test (0 ∷ bits)) →
    IsNowhere n (λ bits. test (1 ∷ bits)) → IsNowhere (suc n) test
neither n test zeros ones [] are = absurd (omega (arith, are.count))
neither n test zeros ones (zero ∷ bits) are = zeros bits (one_less n 0 bits are)
neither n test zeros ones (suc zero ∷ bits) are = ones bits (one_less n 1 bits are)
neither n test zeros ones (suc (suc b) ∷ bits) are = absurd (omega (arith, are.each 0))

pub some_or_none : (n : ℕ) (test : List ℕ → Bool) → IsFound n test ⊎ IsNowhere n test
some_or_none zero test = by (test []) refl
  where
    by : (b : Bool) → test [] ≡ b → IsFound 0 test ⊎ IsNowhere 0 test
    by true is = inl ([], no_bits, is)
    by false is = inr (none_left test is)
some_or_none (suc n) test =
    by (some_or_none n (λ bits. test (0 ∷ bits))) (some_or_none n (λ bits. test (1 ∷ bits)))
  where
    by : IsFound n (λ bits. test (0 ∷ bits)) ⊎ IsNowhere n (λ bits. test (0 ∷ bits)) →
        IsFound n (λ bits. test (1 ∷ bits)) ⊎ IsNowhere n (λ bits. test (1 ∷ bits)) →
        IsFound (suc n) test ⊎ IsNowhere (suc n) test
    by (inl found) other = inl (0 ∷ found.0, one_more n 0 found.0 (omega arith) found.1, found.2)
    by (inr zeros) (inl found) = inl (1 ∷ found.0, one_more n 1 found.0 (omega arith) found.1, found.2)
    by (inr zeros) (inr ones) = inr (neither n test zeros ones)

-- of the numbers below a bound some is such, or each is otherwise
module _ (Such Other : ℕ → Type 0) (either : (k : ℕ) → Such k ⊎ Other k) where
  pub some_or_all : (n : ℕ) → ((k : ℕ) × Such k) ⊎ ((k : ℕ) → k < n → Other k)
  some_or_all zero = inr (λ k none. absurd (omega arith))
  some_or_all (suc n) = by (either n) (some_or_all n)
    where
      by : Such n ⊎ Other n → ((k : ℕ) × Such k) ⊎ ((k : ℕ) → k < n → Other k) →
          ((k : ℕ) × Such k) ⊎ ((k : ℕ) → k < suc n → Other k)
      by (inl such) rest = inl (n, such)
      by (inr other) (inl found) = inl found
      by (inr other) (inr all) = inr (λ k below. at k (below_or_at k below))
        where
          below_or_at : (k : ℕ) → k < suc n → (k < n) ⊎ (n ≡ k)
          below_or_at k below = grind arith

          at : (k : ℕ) → (k < n) ⊎ (n ≡ k) → Other k
          at k (inl below) = all k below
          at k (inr same) = subst Other same other
