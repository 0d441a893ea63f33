-- Lists that go along with numbers, and with the things of other lists.
use Rattle.std.proofs.Common.{◌≡◌, ℕ, zero, suc, ◌+◌, ◌<◌, Bool, None, Some, List, [], ◌∷◌, ◌++◌, length, map, take, slice_get, refl, sym, subst, arith}
use Rattle.std.specs.Prelude.{◌||◌}
use Rattle.std.specs.List.{AllZip, list_any, range_with_len}

module _ {X Y : Type 0} (R : X → Y → Type 0) where
  -- what goes along with the one of an index
  pub zip_some : (xs : List X) (ys : List Y) (k : ℕ) (x : X) → AllZip R xs ys → slice_get xs k ≡ Some x →
      (y : Y) × (slice_get ys k ≡ Some y) × R x y
  zip_some [] ys k x all is = absurd (cc)
  zip_some (z ∷ xs) [] k x all is = absurd all
  zip_some (z ∷ xs) (w ∷ ys) zero x all is = let same : z ≡ x = cc in (w, refl, subst (λ a. R a w) same all.0)
  zip_some (z ∷ xs) (w ∷ ys) (suc k) x all is = zip_some xs ys k x all.1 is

  pub zip_none : (xs : List X) (ys : List Y) (k : ℕ) → AllZip R xs ys → slice_get xs k ≡ None → slice_get ys k ≡ None
  zip_none [] [] k all is = refl
  zip_none [] (w ∷ ys) k all is = absurd all
  zip_none (z ∷ xs) [] k all is = absurd all
  zip_none (z ∷ xs) (w ∷ ys) zero all is = absurd (cc)
  zip_none (z ∷ xs) (w ∷ ys) (suc k) all is = zip_none xs ys k all.1 is

  -- one pair more
  pub zip_pushed : (xs : List X) (ys : List Y) (x : X) (y : Y) → AllZip R xs ys → R x y →
      AllZip R (xs ++ x ∷ []) (ys ++ y ∷ [])
  zip_pushed [] [] x y all one = (one, tt)
  zip_pushed [] (w ∷ ys) x y all one = absurd all
  zip_pushed (z ∷ xs) [] x y all one = absurd all
  zip_pushed (z ∷ xs) (w ∷ ys) x y all one = (all.0, zip_pushed xs ys x y all.1 one)

  -- two lists one behind the other
  pub zip_joined : (xs : List X) (ys : List Y) (vs : List X) (ws : List Y) → AllZip R xs ys → AllZip R vs ws →
      AllZip R (xs ++ vs) (ys ++ ws)
  zip_joined [] [] vs ws all more = more
  zip_joined [] (w ∷ ys) vs ws all more = absurd all
  zip_joined (z ∷ xs) [] vs ws all more = absurd all
  zip_joined (z ∷ xs) (w ∷ ys) vs ws all more = (all.0, zip_joined xs ys vs ws all.1 more)

  pub zip_taken : (xs : List X) (ys : List Y) (k : ℕ) (x : X) (y : Y) → AllZip R (take k xs) ys →
      slice_get xs k ≡ Some x → R x y → AllZip R (take (k + 1) xs) (ys ++ y ∷ [])
  zip_taken [] ys k x y all is one = absurd (cc)
  zip_taken (z ∷ xs) [] zero x y all is one = let same : z ≡ x = cc in (subst (λ a. R a y) (sym same) one, tt)
  zip_taken (z ∷ xs) (w ∷ ys) zero x y all is one = absurd all
  zip_taken (z ∷ xs) [] (suc k) x y all is one = absurd all
  zip_taken (z ∷ xs) (w ∷ ys) (suc k) x y all is one =
      let at : suc (k + 1) ≡ suc k + 1 = omega arith in
      subst (λ n. AllZip R (take n (z ∷ xs)) ((w ∷ ys) ++ y ∷ [])) at (all.0, zip_taken xs ys k x y all.1 is one)

-- a weaker relation
pub zip_weaker : {X Y : Type 0} (R S : X → Y → Type 0) → ((x : X) (y : Y) → R x y → S x y) →
    (xs : List X) (ys : List Y) →
    AllZip R xs ys → AllZip S xs ys
zip_weaker R S weaker [] [] all = tt
zip_weaker R S weaker [] (y ∷ ys) all = absurd all
zip_weaker R S weaker (x ∷ xs) [] all = absurd all
zip_weaker R S weaker (x ∷ xs) (y ∷ ys) all = (weaker x y all.0, zip_weaker R S weaker xs ys all.1)

-- things that go along with mapped ones
pub zip_mapped : {X Y Z : Type 0} (R : X → Y → Type 0) (S : Z → Y → Type 0) (f : X → Z) →
    ((x : X) (y : Y) → R x y → S (f x) y) → (xs : List X) (ys : List Y) → AllZip R xs ys → AllZip S (map f xs) ys
zip_mapped R S f turns [] [] all = tt
zip_mapped R S f turns [] (y ∷ ys) all = absurd all
zip_mapped R S f turns (x ∷ xs) [] all = absurd all
zip_mapped R S f turns (x ∷ xs) (y ∷ ys) all = (turns x y all.0, zip_mapped R S f turns xs ys all.1)

module _ {X : Type 0} (R : ℕ → X → Type 0) where
  -- the one of a number
  pub numbered : (a n : ℕ) (xs : List X) → AllZip R (range_with_len a n) xs → (i : ℕ) → i < n →
      (x : X) × (slice_get xs i ≡ Some x) × R (a + i) x
  numbered a zero xs all i below = absurd (omega arith)
  numbered a (suc n) [] all i below = absurd all
  numbered a (suc n) (x ∷ xs) all zero below =
      let here : a ≡ a + 0 = omega arith in (x, refl, subst (λ k. R k x) here all.0)
  numbered a (suc n) (x ∷ xs) all (suc i) below =
      let rest = numbered (a + 1) n xs all.1 i (omega arith) in
      let here : a + 1 + i ≡ a + suc i = omega arith in
      (rest.0, rest.1, subst (λ k. R k rest.0) here rest.2)

  pub number_of : (a n : ℕ) (xs : List X) → AllZip R (range_with_len a n) xs → (i : ℕ) (x : X) →
      slice_get xs i ≡ Some x →
      R (a + i) x
  number_of a zero [] all i x is = absurd (cc)
  number_of a zero (y ∷ xs) all i x is = absurd all
  number_of a (suc n) [] all i x is = absurd all
  number_of a (suc n) (y ∷ xs) all zero x is =
      let same : y ≡ x = cc in let here : a ≡ a + 0 = omega arith in
      subst (λ k. R k x) here (subst (R a) same all.0)
  number_of a (suc n) (y ∷ xs) all (suc i) x is =
      let here : a + 1 + i ≡ a + suc i = omega arith in
      subst (λ k. R k x) here (number_of (a + 1) n xs all.1 i x is)

  pub range_pushed : (a n : ℕ) (xs : List X) (x : X) → AllZip R (range_with_len a n) xs → R (a + n) x →
      AllZip R (range_with_len a (n + 1)) (xs ++ x ∷ [])
  range_pushed a zero [] x all one = let here : a + 0 ≡ a = omega arith in (subst (λ k. R k x) here one, tt)
  range_pushed a zero (y ∷ xs) x all one = absurd all
  range_pushed a (suc n) [] x all one = absurd all
  range_pushed a (suc n) (y ∷ xs) x all one =
      let at : suc (n + 1) ≡ suc n + 1 = omega arith in
      let here : a + suc n ≡ a + 1 + n = omega arith in
      subst (λ k. AllZip R (range_with_len a k) (y ∷ (xs ++ x ∷ []))) at
      (all.0, range_pushed (a + 1) n xs x all.1 (subst (λ k. R k x) here one))

-- things that go along with others are numbered by these
pub by_number : {X Y : Type 0} (R : X → Y → Type 0) (Q : ℕ → Y → Type 0) (whole : List X) →
    ((k : ℕ) (x : X) (y : Y) → slice_get whole k ≡ Some x → R x y → Q k y) → (a : ℕ) (xs : List X) (ys : List Y) →
    ((k : ℕ) (x : X) → slice_get xs k ≡ Some x → slice_get whole (a + k) ≡ Some x) → AllZip R xs ys →
    AllZip Q (range_with_len a (length xs)) ys
by_number R Q whole turns a [] [] within all = tt
by_number R Q whole turns a [] (y ∷ ys) within all = absurd all
by_number R Q whole turns a (x ∷ xs) [] within all = absurd all
by_number R Q whole turns a (x ∷ xs) (y ∷ ys) within all = (
  turns a x y (let here : a + 0 ≡ a = omega arith in subst (λ k. slice_get whole k ≡ Some x) here (within 0 x refl))
      all.0,
  by_number R Q whole turns (a + 1) xs ys (λ k z is.
      let here : a + suc k ≡ a + 1 + k = omega arith in
      subst (λ k. slice_get whole k ≡ Some z) here (within (suc k) z is)) all.1,
)

pub numbered_all : {X Y : Type 0} (R : X → Y → Type 0) (Q : ℕ → Y → Type 0) (xs : List X) (ys : List Y) →
    ((k : ℕ) (x : X) (y : Y) → slice_get xs k ≡ Some x → R x y → Q k y) → AllZip R xs ys →
    AllZip Q (range_with_len 0 (length xs)) ys
numbered_all R Q xs ys turns all =
    by_number R Q xs turns 0 xs ys (λ k x is.
    let here : k ≡ 0 + k = omega arith in subst (λ k. slice_get xs k ≡ Some x) here is) all

-- tests that agree on numbers
pub any_same : (f g : ℕ → Bool) (a n : ℕ) → ((k : ℕ) → k < n → f (a + k) ≡ g (a + k)) →
    list_any f (range_with_len a n) ≡ list_any g (range_with_len a n)
any_same f g a zero same = refl
any_same f g a (suc n) same =
    let here : a + 0 ≡ a = omega arith in
    let first : f a ≡ g a = subst (λ k. f k ≡ g k) here (same 0 (omega arith)) in
    let rest = any_same f g (a + 1) n (λ k below.
    let there : a + suc k ≡ a + 1 + k = omega arith in
    subst (λ k. f k ≡ g k) there (same (suc k) (omega arith))) in
    (λ i. first i || rest i)
