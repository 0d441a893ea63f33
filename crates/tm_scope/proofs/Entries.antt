-- The entries of a list by their positions, where lists are put together, cut and changed.
use Rattle.std.proofs.Common.{◌≡◌, ◌⊎◌, inl, inr, ⊎_elim, ℕ, zero, suc, ◌+◌, ◌<◌, ◌≤◌, Some, ◌-◌, List, [], ◌∷◌, ◌++◌, get_or, length, length-append, length-take, take, drop, set, map, slice_get, refl, sym, ap, ◌∙◌, arith}
use Rattle.std.specs.Prelude.{Contains}
use Rattle.std.specs.Option.{option_map}
use Rattle.std.proofs.lemmas.Option.{none-some, same_Some, slice_get_within, slice_get-get_or, get_or_from_slice_get}

-- two numbers are one or not, and one is below the other or not
pub same_or_not : (a b : ℕ) → (a ≡ b) ⊎ (a ≡ b → ⊥)
same_or_not zero zero = inl refl
same_or_not zero (suc b) = inr (λ e. omega (arith, e))
same_or_not (suc a) zero = inr (λ e. omega (arith, e))
same_or_not (suc a) (suc b) =
    ⊎_elim (λ e. inl (ap suc e)) (λ other. inr (λ e. other (omega (arith, e)))) (same_or_not a b)

pub below_or_not : (a b : ℕ) → (a < b) ⊎ (b ≤ a)
below_or_not a zero = inr (omega arith)
below_or_not zero (suc b) = inl (omega arith)
below_or_not (suc a) (suc b) =
    ⊎_elim (λ below. inl (omega (arith, below))) (λ above. inr (omega (arith, above))) (below_or_not a b)

module _ {X : Type 0} where
  pub at-left : (xs ys : List X) (k : ℕ) (x : X) → slice_get xs k ≡ Some x → slice_get (xs ++ ys) k ≡ Some x
  at-left [] ys k x at = absurd (none-some x at)
  at-left (y ∷ xs) ys zero x at = at
  at-left (y ∷ xs) ys (suc k) x at = at-left xs ys k x at

  pub at-right : (xs ys : List X) (k : ℕ) (x : X) → slice_get ys k ≡ Some x →
      slice_get (xs ++ ys) (length xs + k) ≡ Some x
  at-right [] ys k x at = let same : 0 + k ≡ k = omega arith in ap (slice_get ys) same ∙ at
  at-right (y ∷ xs) ys k x at =
      let on : length (y ∷ xs) + k ≡ suc (length xs + k) = omega arith in
      ap (slice_get (y ∷ xs ++ ys)) on ∙ at-right xs ys k x at

  pub at-end : (xs : List X) (y : X) → slice_get (xs ++ y ∷ []) (length xs) ≡ Some y
  at-end [] y = refl
  at-end (x ∷ xs) y = at-end xs y

  pub at-split : (xs ys : List X) (k : ℕ) (x : X) → slice_get (xs ++ ys) k ≡ Some x →
      (slice_get xs k ≡ Some x) ⊎ ((j : ℕ) × (k ≡ length xs + j) × (slice_get ys j ≡ Some x))
  at-split [] ys k x at = inr (k, omega arith, at)
  at-split (y ∷ xs) ys zero x at = inl at
  at-split (y ∷ xs) ys (suc k) x at =
      ⊎_elim (λ e. inl e) (λ p. let far : k ≡ length xs + p.0 = p.1 in inr (p.0, omega arith, p.2))
      (at-split xs ys k x at)

  pub at-push : (xs : List X) (y : X) (k : ℕ) (x : X) → slice_get (xs ++ y ∷ []) k ≡ Some x →
      (slice_get xs k ≡ Some x) ⊎ ((k ≡ length xs) × (y ≡ x))
  at-push [] y zero x at = inr (refl, same_Some y x at)
  at-push [] y (suc k) x at = absurd (none-some x at)
  at-push (z ∷ xs) y zero x at = inl at
  at-push (z ∷ xs) y (suc k) x at =
      ⊎_elim (λ e. inl e) (λ p. inr (ap suc p.0, p.1)) (at-push xs y k x at)

  pub at-below : (xs ys : List X) (k : ℕ) (x : X) → k < length xs → slice_get (xs ++ ys) k ≡ Some x →
      slice_get xs k ≡ Some x
  at-below [] ys k x below at = absurd (omega arith)
  at-below (y ∷ xs) ys zero x below at = at
  at-below (y ∷ xs) ys (suc k) x below at = at-below xs ys k x (omega arith) at

  pub at-there : (xs : List X) (k : ℕ) → k < length xs → (x : X) × (slice_get xs k ≡ Some x)
  at-there [] k below = absurd (omega arith)
  at-there (x ∷ xs) zero below = (x, refl)
  at-there (x ∷ xs) (suc k) below = at-there xs k (omega arith)

  pub take-at : (n : ℕ) (xs : List X) (k : ℕ) (x : X) → slice_get (take n xs) k ≡ Some x →
      (k < n) × (slice_get xs k ≡ Some x)
  take-at zero xs k x at = absurd (none-some x at)
  take-at (suc n) [] k x at = absurd (none-some x at)
  take-at (suc n) (y ∷ xs) zero x at = (omega arith, at)
  take-at (suc n) (y ∷ xs) (suc k) x at =
      let rest = take-at n xs k x at in
      let below : k < n = rest.0 in
      (omega arith, rest.1)

  pub at-take : (n : ℕ) (xs : List X) (k : ℕ) (x : X) → k < n → slice_get xs k ≡ Some x →
      slice_get (take n xs) k ≡ Some x
  at-take zero xs k x below at = absurd (omega arith)
  at-take (suc n) [] k x below at = absurd (none-some x at)
  at-take (suc n) (y ∷ xs) zero x below at = at
  at-take (suc n) (y ∷ xs) (suc k) x below at = at-take n xs k x (omega arith) at

  pub drop-at : (n : ℕ) (xs : List X) (k : ℕ) → slice_get (drop n xs) k ≡ slice_get xs (n + k)
  drop-at zero xs k = let same : k ≡ 0 + k = omega arith in ap (slice_get xs) same
  drop-at (suc n) [] k = refl
  drop-at (suc n) (y ∷ xs) k =
      let on : suc (n + k) ≡ suc n + k = omega arith in drop-at n xs k ∙ ap (slice_get (y ∷ xs)) on

  pub set-same : (xs : List X) (i : ℕ) (y : X) → i < length xs → slice_get (set xs i y) i ≡ Some y
  set-same [] i y below = absurd (omega arith)
  set-same (x ∷ xs) zero y below = refl
  set-same (x ∷ xs) (suc i) y below = set-same xs i y (omega arith)

  pub set-other : (xs : List X) (i k : ℕ) (y : X) → (k ≡ i → ⊥) → slice_get (set xs i y) k ≡ slice_get xs k
  set-other [] i k y other = refl
  set-other (x ∷ xs) zero zero y other = absurd (other refl)
  set-other (x ∷ xs) zero (suc k) y other = refl
  set-other (x ∷ xs) (suc i) zero y other = refl
  set-other (x ∷ xs) (suc i) (suc k) y other = set-other xs i k y (λ e. other (ap suc e))

  pub contained-at : (xs : List X) (x : X) → Contains xs x → (k : ℕ) × (slice_get xs k ≡ Some x)
  contained-at xs x among = (among.0, slice_get-get_or xs among.0 x among.1 ∙ ap (λ y. Some y) among.2)

  pub at-contained : (xs : List X) (k : ℕ) (x : X) → slice_get xs k ≡ Some x → Contains xs x
  at-contained xs k x at = (k, slice_get_within xs k x at, get_or_from_slice_get xs k x x at)

-- an element that is read from the front of a list
pub read-take : {X : Type 0} (n : ℕ) (xs : List X) (i : ℕ) (x : X) → i < n → i < length xs →
    x ≡ get_or (take n xs) i x → slice_get xs i ≡ Some x
read-take n xs i x below within is =
    let cut = length-take n xs in
    let there = at-there (take n xs) i (omega arith) in
    (take-at n xs i there.0 there.1).1
    ∙ ap (λ y. Some y) (sym (is ∙ get_or_from_slice_get (take n xs) i there.0 x there.1))

-- the last element of the front of a list, changed
pub cut-set : {X : Type 0} (xs : List X) (n : ℕ) (x : X) → n < length xs →
    set (take (suc n) xs) n x ≡ take n xs ++ x ∷ []
cut-set [] n x within = absurd (omega arith)
cut-set (y ∷ xs) zero x within = refl
cut-set (y ∷ xs) (suc n) x within = ap (λ ys. y ∷ ys) (cut-set xs n x (omega arith))

-- all but the last element
take-front : {X : Type 0} (front rest : List X) → take (length front) (front ++ rest) ≡ front
take-front [] rest = refl
take-front (x ∷ front) rest = ap (λ xs. x ∷ xs) (take-front front rest)

pub all_but_last : {X : Type 0} (xs front : List X) (x : X) → xs ≡ front ++ x ∷ [] → take (length xs - 1) xs ≡ front
all_but_last xs front x is =
    let long : length xs ≡ length front + 1 = ap length is ∙ length-append front (x ∷ []) in
    let short : length xs - 1 ≡ length front = omega arith in
    ap (λ n. take n xs) short ∙ ap (take (length front)) is ∙ take-front front (x ∷ [])

pub take-none : {X : Type 0} (xs : List X) (n : ℕ) → length xs ≡ 0 → take n xs ≡ []
take-none xs zero none = refl
take-none [] (suc n) none = refl
take-none (x ∷ xs) (suc n) none = absurd (omega arith)

pub empty_list : {X : Type 0} (xs : List X) → length xs ≡ 0 → xs ≡ []
empty_list [] none = refl
empty_list (x ∷ xs) none = absurd (omega arith)

pub map-push : {X Y : Type 0} (f : X → Y) (xs : List X) (x : X) → map f (xs ++ x ∷ []) ≡ map f xs ++ f x ∷ []
map-push f [] x = refl
map-push f (y ∷ xs) x = ap (λ ys. f y ∷ ys) (map-push f xs x)

pub map-at : {X Y : Type 0} (f : X → Y) (xs : List X) (k : ℕ) (y : Y) → slice_get (map f xs) k ≡ Some y →
    (x : X) × (slice_get xs k ≡ Some x) × (f x ≡ y)
map-at f [] k y at = absurd (none-some y at)
map-at f (x ∷ xs) zero y at = (x, refl, same_Some (f x) y at)
map-at f (x ∷ xs) (suc k) y at = map-at f xs k y at

pub at-map : {X Y : Type 0} (f : X → Y) (xs : List X) (k : ℕ) (x : X) → slice_get xs k ≡ Some x →
    slice_get (map f xs) k ≡ Some (f x)
at-map f [] k x at = absurd (none-some x at)
at-map f (y ∷ xs) zero x at = ap (λ o. option_map f o) at
at-map f (y ∷ xs) (suc k) x at = at-map f xs k x at
