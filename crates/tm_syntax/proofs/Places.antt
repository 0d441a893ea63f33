-- The earliest of all is the earlier of the earliest ones of its parts.
use Rattle.std.proofs.Common.{◌≡◌, Bool, true, false, Option, None, Some, List, [], ◌∷◌, ◌++◌, refl, ap, ◌∙◌, arith}
use Rattle.std.proofs.lemmas.Bool.Decides.{nat_tests}
use Rattle.tm_base.specs.declared.place.Place.{Place}
use Rattle.tm_syntax.specs.Places.{is_before, earlier, earliest, earliest_of}

-- what stands before a place that stands before another one stands before that one
before_through : (a b c : Place) → is_before a b ≡ true → is_before b c ≡ true → is_before a c ≡ true
before_through a b c first second = grind (arith, nat_tests)

-- and likewise of what does not
not_before_through : (a b c : Place) → is_before a b ≡ false → is_before b c ≡ false → is_before a c ≡ false
not_before_through a b c first second = grind (arith, nat_tests)

module _ {X : Type 0} (place : X → Place) where
  earlier_through : (x y z : X) →
      earlier place x (Some (earlier place y (Some z))) ≡ earlier place (earlier place x (Some y)) (Some z)
  earlier_through x y z =
      by (is_before (place z) (place y)) (is_before (place y) (place x)) (is_before (place z) (place x)) refl refl refl
    where
      by : (zy yx zx : Bool) → is_before (place z) (place y) ≡ zy → is_before (place y) (place x) ≡ yx →
          is_before (place z) (place x) ≡ zx →
          earlier place x (Some (earlier place y (Some z))) ≡ earlier place (earlier place x (Some y)) (Some z)
      by true true zx one other both =
          rw (other, one, before_through (place z) (place y) (place x) one other) refl
      by true false zx one other both = rw (other, one, both) refl
      by false true zx one other both = rw (other, one, other) refl
      by false false zx one other both =
          rw (other, one, other, not_before_through (place z) (place y) (place x) one other) refl

  earlier_of_two : (x : X) (a b : Option X) →
      earlier place x (earliest_of place a b) ≡ earlier place (earlier place x a) b
  earlier_of_two x None b = refl
  earlier_of_two x (Some y) None = refl
  earlier_of_two x (Some y) (Some z) = earlier_through x y z

  pub earliest-append : (xs ys : List X) →
      earliest place (xs ++ ys) ≡ earliest_of place (earliest place xs) (earliest place ys)
  earliest-append [] ys = refl
  earliest-append (x ∷ xs) ys =
      ap (λ o. Some (earlier place x o)) (earliest-append xs ys)
      ∙ ap Some (earlier_of_two x (earliest place xs) (earliest place ys))
