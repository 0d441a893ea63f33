-- Lists of blocks in which each block stands once.
use Rattle.std.proofs.Common.{◌≡◌, ℕ, zero, suc, ◌+◌, ◌⊎◌, inl, inr, None, Some, List, [], ◌∷◌, ◌++◌, length, slice_get, refl, sym, subst, arith}
use Rattle.tm_struct.proofs.Pushed.{is_one, in_front}

-- an element of a list
abbrev pub In : ℕ → List ℕ → Type 0
In x xs = (k : ℕ) × (slice_get xs k ≡ Some x)

-- each element stands once
abbrev pub Once : List ℕ → Type 0
Once xs = (j k x : ℕ) → slice_get xs j ≡ Some x → slice_get xs k ≡ Some x → j ≡ k

pub in_behind : (xs ys : List ℕ) (k x : ℕ) → slice_get ys k ≡ Some x → slice_get (xs ++ ys) (length xs + k) ≡ Some x
in_behind [] ys k x is =
    let same : k ≡ 0 + k = omega arith in subst (λ (n : ℕ). slice_get ys n ≡ Some x) same is
in_behind (z ∷ xs) ys k x is =
    let same : suc (length xs + k) ≡ suc (length xs) + k = omega arith in
    subst (λ (n : ℕ). slice_get (z ∷ (xs ++ ys)) n ≡ Some x) same (in_behind xs ys k x is)

-- a place in one of two lists
pub record IsBehind (xs ys : List ℕ) (k x : ℕ) : Type 0 where
  pub place : ℕ
  pub place_is : k ≡ length xs + place
  pub is : slice_get ys place ≡ Some x

pub in_either : (xs ys : List ℕ) (k x : ℕ) → slice_get (xs ++ ys) k ≡ Some x →
    (slice_get xs k ≡ Some x) ⊎ IsBehind xs ys k x
in_either [] ys k x is = inr (record { place = k; place_is = omega arith; is = is })
in_either (z ∷ xs) ys zero x is = inl is
in_either (z ∷ xs) ys (suc k) x is = of (in_either xs ys k x is)
  where
    of : (slice_get xs k ≡ Some x) ⊎ IsBehind xs ys k x →
        (slice_get xs k ≡ Some x) ⊎ IsBehind (z ∷ xs) ys (suc k) x
    of (inl there) = inl there
    of (inr behind) =
        inr (record { place = behind.place; place_is = omega (arith, behind.place_is); is = behind.is })

pub once_append : (xs ys : List ℕ) → Once xs → Once ys → ((x : ℕ) → In x xs → In x ys → ⊥) → Once (xs ++ ys)
once_append xs ys left right apart j k x one other = of (in_either xs ys j x one) (in_either xs ys k x other)
  where
    of : (slice_get xs j ≡ Some x) ⊎ IsBehind xs ys j x → (slice_get xs k ≡ Some x) ⊎ IsBehind xs ys k x → j ≡ k
    of (inl a) (inl b) = left j k x a b
    of (inl a) (inr b) = absurd (apart x (j, a) (b.place, b.is))
    of (inr a) (inl b) = absurd (apart x (k, b) (a.place, a.is))
    of (inr a) (inr b) =
        omega (arith, a.place_is, b.place_is, right a.place b.place x a.is b.is)

pub only_one : (x at : ℕ) → In x (at ∷ []) → x ≡ at
only_one x at (zero, is) = sym (is_one (Some at) at x refl is)
only_one x at (suc k, is) = let wrong : None ≡ Some x = is in absurd (cc)

pub either : {A B C : Type 0} → A ⊎ B → (A → C) → (B → C) → C
either (inl a) left right = left a
either (inr b) left right = right b

pub nothing_in : (x : ℕ) → In x [] → ⊥
nothing_in x there = let wrong : None ≡ Some x = there.1 in cc

pub from_left : (xs ys : List ℕ) (x : ℕ) → In x xs → In x (xs ++ ys)
from_left xs ys x there = (there.0, in_front xs ys there.0 x there.1)

pub from_right : (xs ys : List ℕ) (x : ℕ) → In x ys → In x (xs ++ ys)
from_right xs ys x there = (length xs + there.0, in_behind xs ys there.0 x there.1)
