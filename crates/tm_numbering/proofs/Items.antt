-- Items of lists by their positions, where lists grow at their end, are cut or mapped.
use Rattle.std.proofs.Common.{◌≡◌, ◌⊎◌, inl, inr, ⊎_elim, ℕ, zero, suc, ◌+◌, ◌<◌, Bool, true, false, cond, List, [], ◌∷◌, ◌++◌, map, length, take, slice_get, Option, None, Some, refl, sym, ap, ◌∙◌, subst, arith, true≢false}
use Rattle.std.specs.Prelude.{All, position}
use Rattle.std.specs.List.{list_any}
use Rattle.std.specs.Option.{option_map}
use Rattle.std.proofs.lemmas.Bool.{or_parts}
use Rattle.std.proofs.lemmas.List.Folds.{list_any_none}
use Rattle.std.proofs.lemmas.Option.{get_or_from_slice_get, none-some, same_Some, slice_get-get_or, slice_get-map, slice_get_within}

module _ {X : Type 0} where
  -- an item of a list with one more is one of before, or the new one
  pub get_more : (xs : List X) (y : X) (k : ℕ) (x : X) → slice_get (xs ++ y ∷ []) k ≡ Some x →
      (slice_get xs k ≡ Some x) ⊎ ((k ≡ length xs) × (y ≡ x))
  get_more [] y zero x at = inr (refl, same_Some y x at)
  get_more [] y (suc k) x at = absurd (none-some x at)
  get_more (z ∷ xs) y zero x at = inl at
  get_more (z ∷ xs) y (suc k) x at = ⊎_elim (λ e. inl e) (λ p. inr (ap suc p.0, p.1)) (get_more xs y k x at)

  -- the items of before stay where they are
  pub get_stays : (xs : List X) (y : X) (k : ℕ) (x : X) → slice_get xs k ≡ Some x → slice_get (xs ++ y ∷ []) k ≡ Some x
  get_stays [] y k x at = absurd (none-some x at)
  get_stays (z ∷ xs) y zero x at = at
  get_stays (z ∷ xs) y (suc k) x at = get_stays xs y k x at

  -- the new item stands behind them
  pub get_last : (xs : List X) (y : X) → slice_get (xs ++ y ∷ []) (length xs) ≡ Some y
  get_last [] y = refl
  get_last (x ∷ xs) y = get_last xs y

  -- below its length a list has an item
  pub get_some : (xs : List X) (k : ℕ) → k < length xs → (x : X) × (slice_get xs k ≡ Some x)
  get_some [] k below = absurd (omega arith)
  get_some (x ∷ xs) zero below = (x, refl)
  get_some (x ∷ xs) (suc k) below = get_some xs k (omega arith)

  -- an item of the front of a list
  pub take_get : (n : ℕ) (xs : List X) (k : ℕ) (x : X) → slice_get (take n xs) k ≡ Some x → slice_get xs k ≡ Some x
  take_get zero xs k x at = absurd (none-some x at)
  take_get (suc n) [] k x at = absurd (none-some x at)
  take_get (suc n) (y ∷ xs) zero x at = at
  take_get (suc n) (y ∷ xs) (suc k) x at = take_get n xs k x at

  -- what holds of all items holds of the one at a position
  pub at_index : (P : X → Type 0) (xs : List X) (k : ℕ) (x : X) → All P xs → slice_get xs k ≡ Some x → P x
  at_index P xs k x all at = subst P (get_or_from_slice_get xs k x x at) (all k x (slice_get_within xs k x at))

-- the item of a mapped list
pub mapped_get : {X Y : Type 0} (f : X → Y) (xs : List X) (k : ℕ) (x : X) → slice_get xs k ≡ Some x →
    slice_get (map f xs) k ≡ Some (f x)
mapped_get f xs k x at = slice_get-map f xs k ∙ ap (option_map f) at

-- a mapped list that grows
pub map_more : {X Y : Type 0} (f : X → Y) (xs : List X) (x : X) → map f (xs ++ x ∷ []) ≡ map f xs ++ f x ∷ []
map_more f [] x = refl
map_more f (y ∷ xs) x = ap (λ ys. f y ∷ ys) (map_more f xs x)
