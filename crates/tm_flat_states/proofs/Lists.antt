-- Elements of lists, and of lists of numbers.
use Rattle.std.proofs.Common.{◌≡◌, ℕ, zero, suc, ◌+◌, ◌<◌, ◌≤◌, Some, List, [], ◌∷◌, ◌++◌, length, map, replicate, slice_get, slice_index, refl, sym, ap, ◌∙◌, subst, arith, drop, take}
use Rattle.std.specs.List.{AllByRecursion, range_with_len}

pub get_front : {X : Type 0} (xs ys : List X) (k : ℕ) (x : X) → slice_get xs k ≡ Some x →
    slice_get (xs ++ ys) k ≡ Some x
get_front [] ys k x is = absurd (cc)
get_front (z ∷ xs) ys zero x is = is
get_front (z ∷ xs) ys (suc k) x is = get_front xs ys k x is

pub get_back : {X : Type 0} (xs ys : List X) (k : ℕ) → slice_get (xs ++ ys) (length xs + k) ≡ slice_get ys k
get_back [] ys k = let at : 0 + k ≡ k = omega arith in ap (slice_get ys) at
get_back (z ∷ xs) ys k =
    let at : suc (length xs) + k ≡ suc (length xs + k) = omega arith in
    ap (slice_get (z ∷ (xs ++ ys))) at ∙ get_back xs ys k

pub get_range : (a n k : ℕ) → k < n → slice_get (range_with_len a n) k ≡ Some (a + k)
get_range a zero k below = absurd (omega arith)
get_range a (suc n) zero below = let at : a ≡ a + 0 = omega arith in ap Some at
get_range a (suc n) (suc k) below =
    let at : a + 1 + k ≡ a + suc k = omega arith in get_range (a + 1) n k (omega arith) ∙ ap Some at

pub index_is : (xs : List ℕ) (k x : ℕ) → slice_get xs k ≡ Some x → slice_index xs k ≡ x
index_is [] k x is = absurd (cc)
index_is (y ∷ xs) zero x is = let same : y ≡ x = cc in same
index_is (y ∷ xs) (suc k) x is = index_is xs k x is

pub get_within : {X : Type 0} (xs : List X) (k : ℕ) → k < length xs → (x : X) × (slice_get xs k ≡ Some x)
get_within [] k below = absurd (omega arith)
get_within (x ∷ xs) zero below = (x, refl)
get_within (x ∷ xs) (suc k) below = get_within xs k (omega arith)

pub map_long : {X Y : Type 0} (f : X → Y) (xs : List X) → length (map f xs) ≡ length xs
map_long f [] = refl
map_long f (x ∷ xs) = ap suc (map_long f xs)

pub range_long : (a n : ℕ) → length (range_with_len a n) ≡ n
range_long a zero = refl
range_long a (suc n) = ap suc (range_long (a + 1) n)

pub replicate_long : {X : Type 0} (n : ℕ) (x : X) → length (replicate n x) ≡ n
replicate_long zero x = refl
replicate_long (suc n) x = ap suc (replicate_long n x)

-- the first of what is left is what stands there
pub index_dropped : (xs : List ℕ) (k : ℕ) → slice_index (drop k xs) 0 ≡ slice_index xs k
index_dropped [] zero = refl
index_dropped [] (suc k) = refl
index_dropped (x ∷ xs) zero = refl
index_dropped (x ∷ xs) (suc k) = index_dropped xs k

pub drop_long : {X : Type 0} (xs : List X) (k n : ℕ) → k + n ≤ length xs → n ≤ length (drop k xs)
drop_long [] zero n within = omega arith
drop_long [] (suc k) n within = absurd (omega arith)
drop_long (x ∷ xs) zero n within = omega arith
drop_long (x ∷ xs) (suc k) n within = drop_long xs k n (omega arith)

-- what holds of each of what is left holds behind its first
pub rest_each : {X : Type 0} (P : X → Type 0) (xs : List X) (i : ℕ) → AllByRecursion P (drop i xs) →
    AllByRecursion P (drop (i + 1) xs)
rest_each P [] zero all = tt
rest_each P [] (suc i) all = let at : suc (i + 1) ≡ suc i + 1 = omega arith in
    subst (λ k. AllByRecursion P (drop k [])) at tt
rest_each P (x ∷ xs) zero all = all.1
rest_each P (x ∷ xs) (suc i) all =
    let at : suc (i + 1) ≡ suc i + 1 = omega arith in
    subst (λ k. AllByRecursion P (drop k (x ∷ xs))) at (rest_each P xs i all)

-- what is made of one more of a list
map_taken : {X : Type 0} (f : X → ℕ) (xs : List X) (i : ℕ) (x : X) → slice_get xs i ≡ Some x →
    map f (take i xs) ++ f x ∷ [] ≡ map f (take (i + 1) xs)
map_taken f [] i x is = absurd (cc)
map_taken f (y ∷ xs) zero x is = let same : y ≡ x = cc in ap (λ z. f z ∷ []) (sym same)
map_taken f (y ∷ xs) (suc i) x is =
    let at : suc (i + 1) ≡ suc i + 1 = omega arith in
    ap (λ l. f y ∷ l) (map_taken f xs i x is) ∙ ap (λ k. map f (take k (y ∷ xs))) at

pub listed_more : {X : Type 0} (f : X → ℕ) (xs : List X) (i : ℕ) (x : X) (ws more : List ℕ) (w : ℕ) →
    slice_get xs i ≡ Some x → ws ≡ map f (take i xs) → w ≡ f x → more ≡ ws ++ w ∷ [] → more ≡ map f (take (i + 1) xs)
listed_more f xs i x ws more w here so_far is pushed =
    pushed ∙ (λ j. so_far j ++ is j ∷ []) ∙ map_taken f xs i x here
