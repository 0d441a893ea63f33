-- The numbers of trails, followed call by call.
use Rattle.std.proofs.Common.{◌≡◌, ℕ, suc, ◌+◌, ◌<◌, Bool, true, false, Some, List, [], ◌∷◌, ◌++◌, append_assoc, drop, get_or, length, reverse, take, slice_get, refl, sym, ap, ◌∙◌, subst, arith}
use Rattle.std.specs.Prelude.{nat_eq}
use Rattle.std.specs.Cmp.Lexicographic.{pointwise}
use Rattle.std.specs.List.{position_or_len}
use Rattle.std.proofs.Math.Seq.{split_at}
use Rattle.std.proofs.lemmas.Bool.Decides.{nat_tests}
use Rattle.std.proofs.lemmas.List.{reverse-append, take_more}
use Rattle.tm_base.specs.declared.place.Place.{Place}
use Rattle.tm_syntax.specs.Design.{DesignTree}
use Rattle.tm_syntax.specs.Design.Locations.{Location, is_location_at, location_number, locations, same_place}
use Rattle.tm_locations.specs.Locations.{AreLocations, IsRow, IsTrail, LocationTable, call_behind}
use Rattle.tm_locations.specs.declared.table.TrailNode.{TrailNode}
use Rattle.tm_plain.proofs.Arguing.{both_true}
use Rattle.tm_plain.proofs.Places.{end_is, zip_back}

place_same : (a b : Place) → same_place a b ≡ true → a ≡ b
place_same a b is =
    let parts = both_true (nat_eq a.line b.line) (nat_eq a.column b.column) is in
    let line : a.line ≡ b.line = grind (arith, nat_tests) in
    let column : a.column ≡ b.column = grind (arith, nat_tests) in
    (λ i. record { line = line i; column = column i })

trail_same : (a b : List Place) → pointwise same_place a b ≡ true → a ≡ b
trail_same [] [] is = refl
trail_same [] (y ∷ b) is = absurd (cc)
trail_same (x ∷ a) [] is = absurd (cc)
trail_same (x ∷ a) (y ∷ b) is =
    let parts = both_true (same_place x y) (pointwise same_place a b) is in
    (λ i. place_same x y parts.0 i ∷ trail_same a b parts.1 i)

-- where a trail has a number, so has what is behind some calls
behind_calls : (trails : List TrailNode) (later trail : List Place) (n : ℕ) → IsTrail trails n (later ++ trail) →
    (k : ℕ) × IsTrail trails k trail
behind_calls trails [] trail n is = (n, is)
behind_calls trails (x ∷ later) trail n (call_behind there before) = behind_calls trails later trail _ before

-- no location is the one of a place, where none is
none_there : {A : Type 0} (p : A → Bool) (xs : List A) → ((k : ℕ) (x : A) → slice_get xs k ≡ Some x → p x ≡ false) →
    position_or_len p xs ≡ length xs
none_there p [] each = refl
none_there p (x ∷ xs) each =
    let first = each 0 x refl in
    let rest = none_there p xs (λ k y is. each (suc k) y is) in
    grind (arith, first, rest)

module _ (xs trail : List Place) (i : ℕ) (x other : Place) (inside : i < length xs) (here : x ≡ get_or xs i other)
  where
    -- the calls up to the next one
    pub next_calls : reverse (take (i + 1) xs) ++ trail ≡ x ∷ (reverse (take i xs) ++ trail)
    next_calls =
        ap (λ ys. reverse ys ++ trail) (take_more xs i other inside ∙ ap (λ y. take i xs ++ y ∷ []) (sym here))
        ∙ ap (λ ys. ys ++ trail) (reverse-append (take i xs) (x ∷ []))

    -- all calls end with those up to the next one
    later_calls : reverse xs ++ trail ≡ reverse (drop (suc i) xs) ++ (x ∷ (reverse (take i xs) ++ trail))
    later_calls =
        let cut : xs ≡ take i xs ++ x ∷ drop (suc i) xs =
        split_at xs i other inside ∙ ap (λ y. take i xs ++ y ∷ drop (suc i) xs) (sym here) in
        ap (λ ys. reverse ys ++ trail) cut
        ∙ ap (λ ys. ys ++ trail) (reverse-append (take i xs) (x ∷ drop (suc i) xs)
        ∙ ap (λ ys. ys ++ reverse (take i xs)) (reverse-append (x ∷ []) (drop (suc i) xs)))
        ∙ simp append_assoc

    module _ (t : LocationTable) (d : DesignTree) (p : ℕ) (are : AreLocations t d p)
        (none : (n : ℕ) → ¬ IsTrail t.trails n (x ∷ (reverse (take i xs) ++ trail))) (at : Place) where
      abbrev whole : List Place
      whole = reverse xs ++ trail

      nowhere : (n : ℕ) → IsTrail t.trails n whole → ⊥
      nowhere n is =
          let k = behind_calls t.trails (reverse (drop (suc i) xs)) (x ∷ (reverse (take i xs) ++ trail)) n
          (subst (IsTrail t.trails n) later_calls is) in none k.0 k.1

      no_location : (k : ℕ) (l : Location) → slice_get (locations d p) k ≡ Some l → is_location_at at whole l ≡ false
      no_location k l is = by (is_location_at at whole l) refl
        where
          by : (b : Bool) → is_location_at at whole l ≡ b → is_location_at at whole l ≡ false
          by false same = same
          by true same =
              let parts = both_true (same_place at l.at) (pointwise same_place whole l.trail) same in
              let row = zip_back (IsRow t.trails t.rests) t.rows (locations d p) k l are.rows is in
              absurd (nowhere row.0.trail
              (subst (IsTrail t.trails row.0.trail) (sym (trail_same whole l.trail parts.1)) row.1.trail))

      -- where the next call has no number, no location is there
      pub number_nowhere : length t.rows + 1 ≡ location_number d p at whole
      number_nowhere =
          end_is t d p are ∙ ap (λ n. n + 1) (sym (none_there (is_location_at at whole) (locations d p) no_location))
