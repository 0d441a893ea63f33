-- Two lists that go along, seen from an index on.
use Rattle.std.proofs.Common.{◌≡◌, ℕ, zero, suc, ◌<◌, ◌≤◌, false, None, Some, List, [], ◌∷◌, length, drop, get_or, sym, subst, arith}
use Rattle.std.specs.Prelude.{◌↔◌, IsTrue, nat_eq, slice_get}
use Rattle.std.specs.List.{AllZip}
use Rattle.std.proofs.lemmas.Slice.Zip.{AllZip-long}
use Rattle.tm_states.proofs.Tests.{refused, tested, test_of}

module _ {X Y : Type 0} (R : X → Y → Type 0) where
  -- the first of what is left, and the rest
  pub zip_from : (xs : List X) (ys : List Y) (i : ℕ) (x : X) (y : Y) → i < length xs → x ≡ get_or xs i x →
      slice_get ys i ≡ Some y → (R x y × AllZip R (drop (suc i) xs) (drop (suc i) ys)) →
      AllZip R (drop i xs) (drop i ys)
  zip_from [] ys i x y inside here there both = absurd (omega arith)
  zip_from (z ∷ xs) [] i x y inside here there both = absurd (cc)
  zip_from (z ∷ xs) (w ∷ ys) zero x y inside here there both =
      let other : w ≡ y = cc in
      (subst (λ a. R a w) here (subst (λ b. R x b) (sym other) both.0), both.1)
  zip_from (z ∷ xs) (w ∷ ys) (suc i) x y inside here there both = zip_from xs ys i x y (omega arith) here there both

  pub zip_next : (xs : List X) (ys : List Y) (i : ℕ) (x : X) (y : Y) → i < length xs → x ≡ get_or xs i x →
      slice_get ys i ≡ Some y → AllZip R (drop i xs) (drop i ys) →
      R x y × AllZip R (drop (suc i) xs) (drop (suc i) ys)
  zip_next [] ys i x y inside here there all = absurd (omega arith)
  zip_next (z ∷ xs) [] i x y inside here there all = absurd (cc)
  zip_next (z ∷ xs) (w ∷ ys) zero x y inside here there all =
      let other : w ≡ y = cc in
      (subst (λ a. R a y) (sym here) (subst (λ b. R z b) other all.0), all.1)
  zip_next (z ∷ xs) (w ∷ ys) (suc i) x y inside here there all = zip_next xs ys i x y (omega arith) here there all

  -- where the second list ends before, the two do not go along
  pub zip_short : (xs : List X) (ys : List Y) (i : ℕ) → i < length xs → slice_get ys i ≡ None → AllZip R xs ys → ⊥
  zip_short [] ys i inside none all = absurd (omega arith)
  zip_short (x ∷ xs) [] i inside none all = all
  zip_short (x ∷ xs) (y ∷ ys) zero inside none all = absurd (cc)
  zip_short (x ∷ xs) (y ∷ ys) (suc i) inside none all = zip_short xs ys i (omega arith) none all.1

  -- nothing is left of two lists of one length behind the first one's end
  zip_done : (xs : List X) (ys : List Y) (i : ℕ) → length xs ≤ i → length ys ≡ length xs →
      AllZip R (drop i xs) (drop i ys)
  zip_done [] [] zero done same = tt
  zip_done [] [] (suc i) done same = tt
  zip_done [] (y ∷ ys) i done same = absurd (omega (arith, same))
  zip_done (x ∷ xs) [] i done same = absurd (omega (arith, same))
  zip_done (x ∷ xs) (y ∷ ys) zero done same = absurd (omega (arith, done))
  zip_done (x ∷ xs) (y ∷ ys) (suc i) done same = zip_done xs ys i (omega (arith, done)) (omega (arith, same))

  -- where all of the first list was seen, the two go along exactly where they have one length
  pub zip_whole : (xs : List X) (ys : List Y) (i : ℕ) → length xs ≤ i →
      (AllZip R (drop i xs) (drop i ys) → AllZip R xs ys) → IsTrue (nat_eq (length ys) (length xs)) ↔ AllZip R xs ys
  zip_whole xs ys i done back = (
    λ test. back (zip_done xs ys i done (tested (length ys) (length xs) test)),
    λ all. test_of (length ys) (length xs) (AllZip-long R xs ys all),
  )

  -- where two that stand at one index do not go along, the lists do not
  pub zip_stops : (xs : List X) (ys : List Y) (i : ℕ) (x : X) (y : Y) → i < length xs → x ≡ get_or xs i x →
      slice_get ys i ≡ Some y → (R x y → ⊥) → (AllZip R xs ys → AllZip R (drop i xs) (drop i ys)) →
      IsTrue false ↔ AllZip R xs ys
  zip_stops xs ys i x y inside here there apart left =
      refused (λ all. apart (zip_next xs ys i x y inside here there (left all)).0)
