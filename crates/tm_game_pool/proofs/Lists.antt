-- What stands in a list of numbers, and lists of bits.
use Rattle.std.proofs.Common.{◌≡◌, ◌⊎◌, inl, inr, ℕ, zero, suc, ◌+◌, ◌<◌, ◌≤◌, Bool, true, false, List, [], ◌∷◌, length, refl, ap, subst, arith}
use Rattle.std.specs.Prelude.{All, ◌||◌, slice_index_or}
use Rattle.std.specs.List.{list_any, range_with_len}
use Rattle.std.proofs.lemmas.List.Elements.{All-head, All-tail}
use Rattle.tm_typing.proofs.Listed.{In, first_of, later_of}

-- what holds of all items holds of each
pub all_in : {A : Type 0} (P : A → Type 0) {x : A} (xs : List A) → All P xs → In x xs → P x
all_in P {x} _ all (first_of {xs = xs}) = All-head P x xs all
all_in P _ all (later_of {y = y} {xs = xs} i) = all_in P xs (All-tail P y xs all) i

-- where some pass, one does
pub one_passes : {X : Type 0} (p : X → Bool) (xs : List X) → list_any p xs ≡ true → (x : X) × In x xs × (p x ≡ true)
one_passes p [] is = absurd (cc)
one_passes {X} p (x ∷ xs) is = by (p x) refl is (one_passes p xs)
  where
    by : (b : Bool) → p x ≡ b → (b || list_any p xs) ≡ true →
        (list_any p xs ≡ true → (y : X) × In y xs × (p y ≡ true)) → (y : X) × In y (x ∷ xs) × (p y ≡ true)
    by true here is rest = (x, first_of, here)
    by false here is rest = let found = rest is in (found.0, later_of found.1, found.2)

step_on : (a b : ℕ) → (a ≡ b) ⊎ (a + 1 ≤ b) → (suc a ≡ suc b) ⊎ (suc a + 1 ≤ suc b)
step_on a b (inl same) = inl (ap suc same)
step_on a b (inr later) = inr (omega (arith, later))

equal_or_later : (a b : ℕ) → a ≤ b → (a ≡ b) ⊎ (a + 1 ≤ b)
equal_or_later zero zero le = inl refl
equal_or_later zero (suc b) le = inr (omega arith)
equal_or_later (suc a) zero le = absurd (omega (arith, le))
equal_or_later (suc a) (suc b) le = step_on a b (equal_or_later a b (omega (arith, le)))

pub in_range : (start n q : ℕ) → start ≤ q → q < start + n → In q (range_with_len start n)
in_range start zero q above below = absurd (omega (arith, above, below))
in_range start (suc n) q above below = by (equal_or_later start q above)
    (λ later. in_range (start + 1) n q later (omega (arith, below)))
  where
    by : (start ≡ q) ⊎ (start + 1 ≤ q) → (start + 1 ≤ q → In q (range_with_len (start + 1) n)) →
        In q (range_with_len start (suc n))
    by (inl same) rest = subst (λ k. In k (range_with_len start (suc n))) same first_of
    by (inr later) rest = later_of (rest later)

-- lists of bits that agree at each place are one
pub agreeing : (xs ys : List Bool) → length xs ≡ length ys →
    ((q : ℕ) → q < length xs → slice_index_or xs q false ≡ slice_index_or ys q false) → xs ≡ ys
agreeing [] [] long each = refl
agreeing [] (y ∷ ys) long each = absurd (omega (arith, long))
agreeing (x ∷ xs) [] long each = absurd (omega (arith, long))
agreeing (x ∷ xs) (y ∷ ys) long each =
    λ i. each 0 (omega arith) i
    ∷ agreeing xs ys (omega (arith, long)) (λ q below. each (suc q) (omega (arith, below))) i
