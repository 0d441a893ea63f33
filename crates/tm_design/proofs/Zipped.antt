-- What stands at an index of lists, and of two lists as one.
use Rattle.std.proofs.Common.{◌≡◌, ℕ, zero, suc, ◌+◌, ◌<◌, ◌≤◌, Some, List, [], ◌∷◌, ◌++◌, length, take, get_or, slice_get, ap, ◌∙◌, arith}
use Rattle.std.specs.List.{zip}
use Rattle.std.proofs.lemmas.List.{take_more}

pub zip_get : {A B : Type 0} (xs : List A) (ys : List B) (k : ℕ) (x : A) (y : B) → slice_get xs k ≡ Some x →
    slice_get ys k ≡ Some y → slice_get (zip xs ys) k ≡ Some (x, y)
zip_get [] ys k x y here there = absurd (cc)
zip_get (a ∷ xs) [] k x y here there = absurd (cc)
zip_get (a ∷ xs) (b ∷ ys) zero x y here there =
    let one : a ≡ x = cc in
    let two : b ≡ y = cc in
    (λ i. Some (one i, two i))
zip_get (a ∷ xs) (b ∷ ys) (suc k) x y here there = zip_get xs ys k x y here there

pub get_at : {A : Type 0} (xs : List A) (k : ℕ) (x : A) → slice_get xs k ≡ Some x →
    (k < length xs) × (get_or xs k x ≡ x)
get_at [] k x is = absurd (cc)
get_at (a ∷ xs) zero x is = let same : a ≡ x = cc in (omega arith, same)
get_at (a ∷ xs) (suc k) x is = let rest = get_at xs k x is in (omega (arith, rest.0), rest.1)

pub zip_length : {A B : Type 0} (xs : List A) (ys : List B) → length (zip xs ys) ≤ length ys
zip_length [] ys = omega arith
zip_length (x ∷ xs) [] = omega arith
zip_length (x ∷ xs) (y ∷ ys) = let rest = zip_length xs ys in omega (arith, rest)

-- one more of a list is taken
pub one_more_taken : {A : Type 0} (xs : List A) (i : ℕ) (x : A) → slice_get xs i ≡ Some x →
    take (i + 1) xs ≡ take i xs ++ x ∷ []
one_more_taken xs i x is =
    let here = get_at xs i x is in take_more xs i x here.0 ∙ ap (λ y. take i xs ++ y ∷ []) here.1
