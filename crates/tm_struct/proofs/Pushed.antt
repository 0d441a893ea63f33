-- Elements of a list with one more behind it.
use Rattle.std.proofs.Common.{◌≡◌, ℕ, zero, suc, ◌+◌, ◌<◌, ◌≤◌, ◌⊎◌, inl, inr, Bool, true, false, ltb, ◌==◌, Option, None, Some, List, [], ◌∷◌, ◌++◌, length, slice_get, refl, sym, ap, ◌∙◌, ltb-true, ltb-false, arith}
use Rattle.std.proofs.lemmas.Bool.Decides.{Decides-eqb}
use Rattle.tm_cir.proofs.Text.Expressions.{same_inside}

pub same_some : {A : Type 0} (x y : A) → Some x ≡ Some y → x ≡ y
same_some x y same = same_inside same

pub is_one : {A : Type 0} (o : Option A) (x y : A) → o ≡ Some x → o ≡ Some y → x ≡ y
is_one o x y one other = same_some x y (sym one ∙ other)

pub in_front : {A : Type 0} (xs ys : List A) (k : ℕ) (x : A) → slice_get xs k ≡ Some x →
    slice_get (xs ++ ys) k ≡ Some x
in_front [] ys k x is = absurd (cc)
in_front (z ∷ xs) ys zero x is = is
in_front (z ∷ xs) ys (suc k) x is = in_front xs ys k x is

pub last_one : {A : Type 0} (xs : List A) (x : A) → slice_get (xs ++ x ∷ []) (length xs) ≡ Some x
last_one [] x = refl
last_one (z ∷ xs) x = last_one xs x

-- an element of the longer list is one of the others, or the last one
pub pushed : {A : Type 0} (xs : List A) (x : A) (k : ℕ) (y : A) → slice_get (xs ++ x ∷ []) k ≡ Some y →
    (slice_get xs k ≡ Some y) ⊎ ((k ≡ length xs) × (y ≡ x))
pushed [] x zero y is = inr (refl, sym (same_some x y is))
pushed [] x (suc k) y is = absurd (cc)
pushed (z ∷ xs) x zero y is = inl is
pushed (z ∷ xs) x (suc k) y is = of (pushed xs x k y is)
  where
    of : (slice_get xs k ≡ Some y) ⊎ ((k ≡ length xs) × (y ≡ x)) →
        (slice_get xs k ≡ Some y) ⊎ ((suc k ≡ suc (length xs)) × (y ≡ x))
    of (inl there) = inl there
    of (inr last) = inr (ap suc last.0, last.1)

-- below the next number is below this one, or this one
pub below_next : (a n : ℕ) → a < n + 1 → (a < n) ⊎ (a ≡ n)
below_next a n below = of (ltb a n) refl
  where
    of : (v : Bool) → ltb a n ≡ v → (a < n) ⊎ (a ≡ n)
    of true is = inl (ltb-true a n is)
    of false is = let least : n ≤ a = ltb-false a n is in inr (omega arith)

-- two numbers are the same or not
pub same_or_not : (a b : ℕ) → (a ≡ b) ⊎ (a ≡ b → ⊥)
same_or_not a b = of (a == b) refl
  where
    of : (v : Bool) → (a == b) ≡ v → (a ≡ b) ⊎ (a ≡ b → ⊥)
    of true is = inl ((Decides-eqb a b).0 is)
    of false is = inr (λ same. let yes : (a == b) ≡ true = (Decides-eqb a b).1 same in cc)
