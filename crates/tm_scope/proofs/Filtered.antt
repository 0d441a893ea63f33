-- What passes a filter, and where the first element that passes a test stands.
use Rattle.std.proofs.Common.{◌≡◌, ℕ, zero, suc, Bool, true, false, cond, Option, None, Some, List, [], ◌∷◌, position, slice_get, refl, sym, ap, ◌∙◌, true≢false}
use Rattle.std.specs.Prelude.{◌||◌}
use Rattle.std.specs.List.{cons_option, filter_map, list_any}
use Rattle.std.specs.Option.{option_map}
use Rattle.std.proofs.lemmas.Option.{none-some, same_Some}
use Rattle.tm_scope.proofs.Positions.{position-cons}

module _ {X Y : Type 0} (f : X → Option Y) where
  -- an entry of the filtered list comes from one of the list
  pub filtered-at : (xs : List X) (k : ℕ) (y : Y) → slice_get (filter_map f xs) k ≡ Some y →
      (j : ℕ) × (x : X) × (slice_get xs j ≡ Some x) × (f x ≡ Some y)
  filtered-at [] k y at = absurd (none-some y at)
  filtered-at (x ∷ xs) k y at = by (λ j. filtered-at xs j y) (f x) refl k at
    where
      onward : (j : ℕ) × (z : X) × (slice_get xs j ≡ Some z) × (f z ≡ Some y) →
          (j : ℕ) × (z : X) × (slice_get (x ∷ xs) j ≡ Some z) × (f z ≡ Some y)
      onward found = (suc found.0, found.1, found.2, found.3)

      by : ((j : ℕ) → slice_get (filter_map f xs) j ≡ Some y →
          (j : ℕ) × (z : X) × (slice_get xs j ≡ Some z) × (f z ≡ Some y)) →
          (o : Option Y) → f x ≡ o → (k : ℕ) → slice_get (cons_option o (filter_map f xs)) k ≡ Some y →
          (j : ℕ) × (z : X) × (slice_get (x ∷ xs) j ≡ Some z) × (f z ≡ Some y)
      by rest None is k at = onward (rest k at)
      by rest (Some z) is zero at = (0, x, refl, is ∙ at)
      by rest (Some z) is (suc k) at = onward (rest k at)

  -- what passes is there
  pub filter-at : (xs : List X) (j : ℕ) (x : X) (y : Y) → slice_get xs j ≡ Some x → f x ≡ Some y →
      (k : ℕ) × (slice_get (filter_map f xs) k ≡ Some y)
  filter-at [] j x y at is = absurd (none-some x at)
  filter-at (z ∷ xs) zero x y at is = (
    0,
    ap (λ o. slice_get (cons_option o (filter_map f xs)) 0) (ap f (same_Some z x at) ∙ is),
  )
  filter-at (z ∷ xs) (suc j) x y at is = let found = filter-at xs j x y at is in by (f z) found.0 found.1
    where
      by : (o : Option Y) (k : ℕ) → slice_get (filter_map f xs) k ≡ Some y →
          (k : ℕ) × (slice_get (cons_option o (filter_map f xs)) k ≡ Some y)
      by None k at = (k, at)
      by (Some _) k at = (suc k, at)

module _ {X : Type 0} (p : X → Bool) where
  -- the element at the position passes
  pub position-at : (xs : List X) (k : ℕ) → position p xs ≡ Some k →
      (x : X) × (slice_get xs k ≡ Some x) × (p x ≡ true)
  position-at [] k is = absurd (none-some k is)
  position-at (x ∷ xs) k is = by (λ j. position-at xs j) (p x) refl (sym (position-cons p x xs) ∙ is)
    where
      later : ((j : ℕ) → position p xs ≡ Some j → (z : X) × (slice_get xs j ≡ Some z) × (p z ≡ true)) →
          (o : Option ℕ) → position p xs ≡ o → option_map suc o ≡ Some k →
          (z : X) × (slice_get (x ∷ xs) k ≡ Some z) × (p z ≡ true)
      later rest None e is = absurd (none-some k is)
      later rest (Some j) e is =
          let found = rest j e in
          (found.0, ap (slice_get (x ∷ xs)) (sym (same_Some (suc j) k is)) ∙ found.1, found.2)

      by : ((j : ℕ) → position p xs ≡ Some j → (z : X) × (slice_get xs j ≡ Some z) × (p z ≡ true)) →
          (here : Bool) → p x ≡ here → cond here (Some 0) (option_map suc (position p xs)) ≡ Some k →
          (z : X) × (slice_get (x ∷ xs) k ≡ Some z) × (p z ≡ true)
      by rest true passes is = (x, ap (slice_get (x ∷ xs)) (sym (same_Some 0 k is)), passes)
      by rest false fails is = later rest (position p xs) refl is

  -- where some element passes, there is a position
  pub any-position : (xs : List X) → list_any p xs ≡ true → (k : ℕ) × (position p xs ≡ Some k)
  any-position [] some = absurd (true≢false (sym some))
  any-position (x ∷ xs) some = by (any-position xs) (p x) refl some
    where
      by : (list_any p xs ≡ true → (k : ℕ) × (position p xs ≡ Some k)) →
          (here : Bool) → p x ≡ here → (here || list_any p xs) ≡ true → (k : ℕ) × (position p (x ∷ xs) ≡ Some k)
      by rest true passes some =
          (0, position-cons p x xs ∙ ap (λ b. cond b (Some 0) (option_map suc (position p xs))) passes)
      by rest false fails some =
          let found = rest some in (
            suc found.0,
            position-cons p x xs ∙ ap (λ b. cond b (Some 0) (option_map suc (position p xs))) fails
                ∙ ap (option_map suc) found.1,
          )
