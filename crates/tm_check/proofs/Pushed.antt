-- What stands in a list behind which something was put.
use Rattle.std.proofs.Common.{◌≡◌, ℕ, ◌<◌, ◌⊎◌, inl, inr, List, [], ◌∷◌, ◌++◌, Some, length, get_or, sym, ap, ◌∙◌}
use Rattle.std.proofs.Common.{arith}
use Rattle.std.specs.Prelude.{slice_get}
use Rattle.std.proofs.lemmas.List.{get_or_append_left, get_or_at, length-append, length_push}
use Rattle.std.proofs.lemmas.Option.{get_or_from_slice_get, slice_get-get_or, slice_get_within}

-- it stands where it stood, or is the last one
pub pushed_at : {X : Type 0} (xs : List X) (x : X) (k : ℕ) (y : X) → slice_get (xs ++ x ∷ []) k ≡ Some y →
    (slice_get xs k ≡ Some y) ⊎ ((k ≡ length xs) × (x ≡ y))
pushed_at xs x k y there = by (earlier_or_last (slice_get_within (xs ++ x ∷ []) k y there))
  where
    earlier_or_last : k < length (xs ++ x ∷ []) → (k < length xs) ⊎ (length xs ≡ k)
    earlier_or_last within = let long = length_push xs x in grind arith

    read : get_or (xs ++ x ∷ []) k y ≡ y
    read = get_or_from_slice_get (xs ++ x ∷ []) k y y there

    by : (k < length xs) ⊎ (length xs ≡ k) → (slice_get xs k ≡ Some y) ⊎ ((k ≡ length xs) × (x ≡ y))
    by (inl before) =
        inl (slice_get-get_or xs k y before ∙ ap Some (sym (get_or_append_left xs (x ∷ []) y k before) ∙ read))
    by (inr here) = inr (sym here, sym (get_or_at xs x [] y k here) ∙ read)

-- what stood in a list stands in it with others behind
pub stays_at : {X : Type 0} (xs ys : List X) (k : ℕ) (y : X) → slice_get xs k ≡ Some y →
    slice_get (xs ++ ys) k ≡ Some y
stays_at xs ys k y there =
    let below = slice_get_within xs k y there in
    slice_get-get_or (xs ++ ys) k y (omega (arith, below, length-append xs ys))
    ∙ ap Some (get_or_append_left xs ys y k below ∙ get_or_from_slice_get xs k y y there)
