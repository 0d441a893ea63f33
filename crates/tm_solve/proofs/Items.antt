-- Lists of items that grow at their end.
use Rattle.std.proofs.Common.{◌≡◌, ◌⊎◌, inl, inr, ℕ, zero, suc, ◌<◌, ◌+◌, arith, List, [], ◌∷◌, ◌++◌, map, length, slice_get, Option, Some, None, refl, sym, ap, ◌∙◌}
use Rattle.tm_solve.specs.Iterates.{Each}

pub map_more : {A B : Type 0} (f : A → B) (xs : List A) (x : A) → map f (xs ++ x ∷ []) ≡ map f xs ++ f x ∷ []
map_more f [] x = refl
map_more f (y ∷ ys) x = ap (λ r. f y ∷ r) (map_more f ys x)

pub each_more : {A : Type 0} (P : A → Type 0) (xs : List A) (x : A) → Each P xs → P x → Each P (xs ++ x ∷ [])
each_more P [] x e p = (p, tt)
each_more P (y ∷ ys) x e p = (e.0, each_more P ys x e.1 p)

pub each_kept : {A : Type 0} (P Q : A → Type 0) → ((x : A) → P x → Q x) → (xs : List A) → Each P xs → Each Q xs
each_kept P Q f [] e = tt
each_kept P Q f (x ∷ xs) e = (f x e.0, each_kept P Q f xs e.1)

pub map_kept : {A B : Type 0} (P : A → Type 0) (f h : A → B) → ((x : A) → P x → f x ≡ h x) → (xs : List A) → Each P xs →
    map f xs ≡ map h xs
map_kept P f h same [] e = refl
map_kept P f h same (x ∷ xs) e = ap (λ y. y ∷ map f xs) (same x e.0) ∙ ap (λ ys. h x ∷ ys) (map_kept P f h same xs e.1)

-- an item of a list with one more is one of before, or the new one
pub get_more : {A : Type 0} (xs : List A) (x : A) (k : ℕ) (y : A) → slice_get (xs ++ x ∷ []) k ≡ Some y →
    (slice_get xs k ≡ Some y) ⊎ ((k ≡ length xs) × (x ≡ y))
get_more [] x zero y e = inr (refl, cc)
get_more [] x (suc k) y e = cc
get_more (w ∷ ws) x zero y e = inl e
get_more (w ∷ ws) x (suc k) y e = up (get_more ws x k y e)
  where
    up : (slice_get ws k ≡ Some y) ⊎ ((k ≡ length ws) × (x ≡ y)) →
        (slice_get (w ∷ ws) (suc k) ≡ Some y) ⊎ ((suc k ≡ length (w ∷ ws)) × (x ≡ y))
    up (inl h) = inl h
    up (inr h) = inr (ap (λ n. suc n) h.0, h.1)

pub length_more : {A : Type 0} (xs : List A) (x : A) → length (xs ++ x ∷ []) ≡ length xs + 1
length_more [] x = refl
length_more (y ∷ ys) x = let e = length_more ys x in omega arith

pub length_mapped : {A B : Type 0} (f : A → B) (xs : List A) → length (map f xs) ≡ length xs
length_mapped f [] = refl
length_mapped f (x ∷ xs) = ap (λ n. suc n) (length_mapped f xs)

pub get_below : {A : Type 0} (xs : List A) (k : ℕ) (y : A) → slice_get xs k ≡ Some y → k < length xs
get_below [] k y e = cc
get_below (x ∷ xs) zero y e = omega arith
get_below (x ∷ xs) (suc k) y e = let l = get_below xs k y e in omega arith

-- an item of a list with one more, where items are seen by a function
pub seen_more : {A B : Type 0} (f : A → B) (xs : List A) (x : A) (k : ℕ) (y : B) →
    slice_get (map f (xs ++ x ∷ [])) k ≡ Some y → (slice_get (map f xs) k ≡ Some y) ⊎ ((k ≡ length xs) × (f x ≡ y))
seen_more f xs x k y e = at (get_more (map f xs) (f x) k y (ap (λ l. slice_get l k) (sym (map_more f xs x)) ∙ e))
  where
    at : (slice_get (map f xs) k ≡ Some y) ⊎ ((k ≡ length (map f xs)) × (f x ≡ y)) →
        (slice_get (map f xs) k ≡ Some y) ⊎ ((k ≡ length xs) × (f x ≡ y))
    at (inl h) = inl h
    at (inr h) = inr (h.0 ∙ length_mapped f xs, h.1)

-- equal options hold one item
pub some_same : {A : Type 0} {x y : A} → Some x ≡ Some y → x ≡ y
some_same {A = A} {x = x} {y = y} e = ap (λ (o : Option A). or_else o) e
  where
    or_else : Option A → A
    or_else None = x
    or_else (Some z) = z

-- below its length a list has an item
pub get_some : {A : Type 0} (xs : List A) (k : ℕ) → k < length xs → (x : A) × (slice_get xs k ≡ Some x)
get_some [] k below = absurd (omega arith)
get_some (x ∷ xs) zero below = (x, refl)
get_some (x ∷ xs) (suc k) below = get_some xs k (omega arith)
