-- Lists whose elements belong together, by their indices.
use Rattle.std.proofs.Common.{◌≡◌, ℕ, zero, suc, ◌<◌, Option, None, Some, List, length, slice_get, refl, sym, subst}
use Rattle.std.proofs.lemmas.Option.{none-some, same_Some, slice_get_within}
use Rattle.tm_names.specs.TextScopes.{Each, none, more}

module _ {X Y : Type 0} {Is : X → Y → Type 0} where
  -- those of one index belong together
  pub each_at : (xs : List X) (ys : List Y) (i : ℕ) (v : X) (w : Y) → Each Is xs ys →
      slice_get xs i ≡ Some v → slice_get ys i ≡ Some w → Is v w
  each_at xs ys i v w none is_v is_w = absurd (none-some v is_v)
  each_at xs ys zero v w (more {x = x} {y = y} here rest) is_v is_w =
      subst (λ z. Is z w) (same_Some x v is_v) (subst (λ z. Is x z) (same_Some y w is_w) here)
  each_at xs ys (suc i) v w (more {xs = us} {ys = vs} here rest) is_v is_w = each_at us vs i v w rest is_v is_w

  -- where the first list has one, the second has one
  pub each_there : (xs : List X) (ys : List Y) (i : ℕ) (v : X) → Each Is xs ys → slice_get xs i ≡ Some v →
      slice_get ys i ≡ None → ⊥
  each_there xs ys i v none is_v past = none-some v is_v
  each_there xs ys zero v (more {y = y} here rest) is_v past = none-some y (sym past)
  each_there xs ys (suc i) v (more {xs = us} {ys = vs} here rest) is_v past = each_there us vs i v rest is_v past

  -- and where the second has one, the first does
  pub each_back : (xs : List X) (ys : List Y) (i : ℕ) (w : Y) → Each Is xs ys → slice_get ys i ≡ Some w →
      slice_get xs i ≡ None → ⊥
  each_back xs ys i w none is_w past = none-some w is_w
  each_back xs ys zero w (more {x = x} here rest) is_w past = none-some x (sym past)
  each_back xs ys (suc i) w (more {xs = us} {ys = vs} here rest) is_w past = each_back us vs i w rest is_w past

  -- so its index is within the second
  pub each_within : (xs : List X) (ys : List Y) (i : ℕ) (v : X) → Each Is xs ys → slice_get xs i ≡ Some v →
      i < length ys
  each_within xs ys i v are is_v = by (slice_get ys i) refl
    where
      by : (o : Option Y) → slice_get ys i ≡ o → i < length ys
      by None past = absurd (each_there xs ys i v are is_v past)
      by (Some w) there = slice_get_within ys i w there
