-- Elements of lists, and of lists of numbers.
use Rattle.std.proofs.Common.{◌≡◌, ◌≢◌, ◌⊎◌, inl, inr, ℕ, zero, suc, ◌+◌, ◌<◌, ◌≤◌, Option, None, Some, List, [], ◌∷◌, ◌++◌, length, map, replicate, slice_get, slice_index, slice_set, refl, sym, ap, ◌∙◌, subst, arith}
use Rattle.std.specs.List.{range_with_len}

pub get_front : {X : Type 0} (xs ys : List X) (k : ℕ) (x : X) → slice_get xs k ≡ Some x →
    slice_get (xs ++ ys) k ≡ Some x
get_front [] ys k x is = absurd (cc)
get_front (z ∷ xs) ys zero x is = is
get_front (z ∷ xs) ys (suc k) x is = get_front xs ys k x is

pub get_back : {X : Type 0} (xs ys : List X) (k : ℕ) → slice_get (xs ++ ys) (length xs + k) ≡ slice_get ys k
get_back [] ys k = let at : 0 + k ≡ k = omega arith in ap (slice_get ys) at
get_back (z ∷ xs) ys k =
    let at : suc (length xs) + k ≡ suc (length xs + k) = omega arith in
    ap (slice_get (z ∷ (xs ++ ys))) at ∙ get_back xs ys k

-- what stands in a list to which something was pushed
pub get_pushed : {X : Type 0} (xs : List X) (y : X) (k : ℕ) (x : X) → slice_get (xs ++ y ∷ []) k ≡ Some x →
    (slice_get xs k ≡ Some x) ⊎ ((k ≡ length xs) × (y ≡ x))
get_pushed [] y zero x is = inr (refl, let same : y ≡ x = cc in same)
get_pushed [] y (suc k) x is = absurd (cc)
get_pushed (z ∷ xs) y zero x is = inl is
get_pushed {X} (z ∷ xs) y (suc k) x is = by (get_pushed xs y k x is)
  where
    by : (slice_get xs k ≡ Some x) ⊎ ((k ≡ length xs) × (y ≡ x)) →
        (slice_get xs k ≡ Some x) ⊎ ((suc k ≡ suc (length xs)) × (y ≡ x))
    by (inl here) = inl here
    by (inr last) = inr (ap suc last.0, last.1)

pub get_range : (a n k : ℕ) → k < n → slice_get (range_with_len a n) k ≡ Some (a + k)
get_range a zero k below = absurd (omega arith)
get_range a (suc n) zero below = let at : a ≡ a + 0 = omega arith in ap Some at
get_range a (suc n) (suc k) below =
    let at : a + 1 + k ≡ a + suc k = omega arith in get_range (a + 1) n k (omega arith) ∙ ap Some at

pub get_replicate : {X : Type 0} (n : ℕ) (x : X) (k : ℕ) → k < n → slice_get (replicate n x) k ≡ Some x
get_replicate zero x k below = absurd (omega arith)
get_replicate (suc n) x zero below = refl
get_replicate (suc n) x (suc k) below = get_replicate n x k (omega arith)

pub get_within : {X : Type 0} (xs : List X) (k : ℕ) → k < length xs → (x : X) × (slice_get xs k ≡ Some x)
get_within [] k below = absurd (omega arith)
get_within (x ∷ xs) zero below = (x, refl)
get_within (x ∷ xs) (suc k) below = get_within xs k (omega arith)

pub index_is : (xs : List ℕ) (k x : ℕ) → slice_get xs k ≡ Some x → slice_index xs k ≡ x
index_is [] k x is = absurd (cc)
index_is (y ∷ xs) zero x is = let same : y ≡ x = cc in same
index_is (y ∷ xs) (suc k) x is = index_is xs k x is

-- lists of one length with equal elements are one
pub same_lists : (xs ys : List ℕ) → length xs ≡ length ys →
    ((k : ℕ) → k < length xs → slice_index xs k ≡ slice_index ys k) → xs ≡ ys
same_lists [] [] long same = refl
same_lists [] (y ∷ ys) long same = absurd (omega (arith, long))
same_lists (x ∷ xs) [] long same = absurd (omega (arith, long))
same_lists (x ∷ xs) (y ∷ ys) long same =
    let first : x ≡ y = same 0 (omega arith) in
    let rest = same_lists xs ys (omega (arith, long)) (λ k below. same (suc k) (omega arith)) in
    (λ i. first i ∷ rest i)

pub map_long : {X Y : Type 0} (f : X → Y) (xs : List X) → length (map f xs) ≡ length xs
map_long f [] = refl
map_long f (x ∷ xs) = ap suc (map_long f xs)

pub range_long : (a n : ℕ) → length (range_with_len a n) ≡ n
range_long a zero = refl
range_long a (suc n) = ap suc (range_long (a + 1) n)

pub index_map : {X : Type 0} (f : X → ℕ) (xs : List X) (k : ℕ) (x : X) → slice_get xs k ≡ Some x →
    slice_index (map f xs) k ≡ f x
index_map f [] k x is = absurd (cc)
index_map f (y ∷ xs) zero x is = let same : y ≡ x = cc in ap f same
index_map f (y ∷ xs) (suc k) x is = index_map f xs k x is

-- ---- a list in which one element was set
pub map_set : {X : Type 0} (f : X → ℕ) (xs : List X) (k : ℕ) (x : X) →
    map f (slice_set xs k x) ≡ slice_set (map f xs) k (f x)
map_set f [] k x = refl
map_set f (y ∷ xs) zero x = refl
map_set f (y ∷ xs) (suc k) x = ap (λ l. f y ∷ l) (map_set f xs k x)

pub set_long : {X : Type 0} (xs : List X) (k : ℕ) (x : X) → length (slice_set xs k x) ≡ length xs
set_long [] k x = refl
set_long (y ∷ xs) zero x = refl
set_long (y ∷ xs) (suc k) x = ap suc (set_long xs k x)

pub get_other : {X : Type 0} (xs : List X) (k j : ℕ) (x : X) → j ≢ k → slice_get (slice_set xs k x) j ≡ slice_get xs j
get_other [] k j x apart = refl
get_other (y ∷ xs) zero zero x apart = absurd (apart refl)
get_other (y ∷ xs) zero (suc j) x apart = refl
get_other (y ∷ xs) (suc k) zero x apart = refl
get_other (y ∷ xs) (suc k) (suc j) x apart = get_other xs k j x (λ same. apart (ap suc same))

pub get_set : {X : Type 0} (xs : List X) (k : ℕ) (x y : X) → slice_get (slice_set xs k x) k ≡ Some y → x ≡ y
get_set [] k x y is = absurd (cc)
get_set (z ∷ xs) zero x y is = let same : x ≡ y = cc in same
get_set (z ∷ xs) (suc k) x y is = get_set xs k x y is
