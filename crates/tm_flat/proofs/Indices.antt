-- What stands at an index of a list: what is first found, what goes along with another list.
use Rattle.std.proofs.Common.{◌≡◌, ℕ, zero, suc, ◌<◌, ◌≤◌, ◌++◌, Bool, true, false, cond, Option, None, Some, List, [], ◌∷◌, length, refl, ap, ◌∙◌, subst, position, find, filter_map, slice_get, arith, ltb-true, ltb-false}
use Rattle.std.specs.Prelude.{nat_lt}
use Rattle.std.specs.Bool.{then_some}
use Rattle.std.specs.Option.{option_map, option_and_then}
use Rattle.std.specs.List.{AllZip, AllByRecursion, position_or_len, cons_option}
use Rattle.std.proofs.lemmas.List.Folds.{find_at}
use Rattle.std.proofs.lemmas.Option.{slice_get_past}

-- the first that passes stands at its index
pub found_at : {X : Type 0} → (p : X → Bool) (xs : List X) (k : ℕ) → position p xs ≡ Some k →
    (find p xs ≡ slice_get xs k) × (k < length xs)
found_at p xs k is = of (nat_lt (position_or_len p xs) (length xs)) refl is
  where
    of : (b : Bool) → nat_lt (position_or_len p xs) (length xs) ≡ b →
        cond b (Some (position_or_len p xs)) None ≡ Some k →
        (find p xs ≡ slice_get xs k) × (k < length xs)
    of true below same =
        let at : position_or_len p xs ≡ k = cc in
        let inside : position_or_len p xs < length xs = ltb-true (position_or_len p xs) (length xs) below in
        (find_at p xs ∙ ap (slice_get xs) at, subst (λ i. i < length xs) at inside)
    of false below same = absurd (cc)

-- where there is no index none passes
pub found_nowhere : {X : Type 0} → (p : X → Bool) (xs : List X) → position p xs ≡ None → find p xs ≡ None
found_nowhere p xs is = of (nat_lt (position_or_len p xs) (length xs)) refl is
  where
    of : (b : Bool) → nat_lt (position_or_len p xs) (length xs) ≡ b → cond b (Some (position_or_len p xs)) None ≡ None →
        find p xs ≡ None
    of true below same = absurd (cc)
    of false below same =
        let past : length xs ≤ position_or_len p xs = ltb-false (position_or_len p xs) (length xs) below in
        find_at p xs ∙ slice_get_past xs (position_or_len p xs) past

-- the first of what those that pass give
pub first_given : {X Y : Type 0} → (p : X → Bool) (g : X → Y) (xs : List X) →
    slice_get (filter_map (λ x. then_some (p x) (g x)) xs) 0 ≡ option_map g (find p xs)
first_given p g [] = refl
first_given p g (x ∷ xs) = of (p x) (first_given p g xs)
  where
    of : (b : Bool) → slice_get (filter_map (λ y. then_some (p y) (g y)) xs) 0 ≡ option_map g (find p xs) →
        slice_get (cons_option (then_some b (g x)) (filter_map (λ y. then_some (p y) (g y)) xs)) 0
        ≡ option_map g (cond b (Some x) (find p xs))
    of true rest = refl
    of false rest = rest

pub first_left : {X : Type 0} → (xs ys : List X) (x : X) → slice_get xs 0 ≡ Some x → slice_get (xs ++ ys) 0 ≡ Some x
first_left [] ys x is = absurd (cc)
first_left (z ∷ xs) ys x is = is

pub first_right : {X : Type 0} → (xs ys : List X) → slice_get xs 0 ≡ None → slice_get (xs ++ ys) 0 ≡ slice_get ys 0
first_right [] ys is = refl
first_right (z ∷ xs) ys is = absurd (cc)

-- what stands at an index of two lists that go along
pub zipped_at : {X Y : Type 0} → (R : X → Y → Type 0) (xs : List X) (ys : List Y) → AllZip R xs ys → (k : ℕ) →
    k < length xs → (x : X) × (y : Y) × (slice_get xs k ≡ Some x) × (slice_get ys k ≡ Some y) × R x y
zipped_at R [] [] all k below = absurd (omega arith)
zipped_at R [] (y ∷ ys) all k below = absurd all
zipped_at R (x ∷ xs) [] all k below = absurd all
zipped_at R (x ∷ xs) (y ∷ ys) all zero below = (x, y, refl, refl, all.0)
zipped_at R (x ∷ xs) (y ∷ ys) all (suc k) below = zipped_at R xs ys all.1 k (omega arith)

pub all_at : {X : Type 0} → (P : X → Type 0) (xs : List X) (k : ℕ) (x : X) → AllByRecursion P xs →
    slice_get xs k ≡ Some x → P x
all_at P [] k x all is = absurd (cc)
all_at P (y ∷ xs) zero x all is = let same : y ≡ x = cc in subst P same all.0
all_at P (y ∷ xs) (suc k) x all is = all_at P xs k x all.1 is

pub and_then_is : {X Y : Type 0} → (f : X → Option Y) (o : Option X) (y : Y) → option_and_then f o ≡ Some y →
    (x : X) × (o ≡ Some x) × (f x ≡ Some y)
and_then_is f None y is = absurd (cc)
and_then_is f (Some x) y is = (x, refl, is)

pub map_is : {X Y : Type 0} → (f : X → Y) (o : Option X) (y : Y) → option_map f o ≡ Some y →
    (x : X) × (o ≡ Some x) × (f x ≡ y)
map_is f None y is = absurd (cc)
map_is f (Some x) y is = let same : f x ≡ y = cc in (x, refl, same)
