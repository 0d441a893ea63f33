-- The first of some things that are faults, found from the front.
use Rattle.std.proofs.Common.{◌≡◌, Bool, true, false, Option, None, Some, List, [], ◌∷◌, ◌++◌, refl, arith, if◌then◌else◌}
use Rattle.std.specs.List.{AllByRecursion}
use Rattle.std.proofs.lemmas.Bool.Decides.{nat_tests}
use Rattle.tm_base.specs.declared.place.Place.{Place}
use Rattle.tm_syntax.specs.Places.{is_before}
use Rattle.tm_syntax.specs.Faults.{IsFirst, here, later}
use Rattle.tm_syntax.specs.Faults.Marks.{Mark}
use Rattle.tm_limits.specs.Firsts.{IsFirstOf}

is_before-trans : (a b c : Place) → is_before a b ≡ true → is_before b c ≡ true → is_before a c ≡ true
is_before-trans a b c e f = grind (arith, nat_tests)

before_not_after : (a b c : Place) → is_before a b ≡ true → is_before c b ≡ false → is_before a c ≡ true
before_not_after a b c e f = grind (arith, nat_tests)

module _ {X : Type 0} (mark : X → Mark) (Is : X → Type 0) where
  all_pushed : (P : X → Type 0) (xs : List X) (x : X) → AllByRecursion P xs → P x → AllByRecursion P (xs ++ x ∷ [])
  all_pushed P [] x all last = (last, tt)
  all_pushed P (y ∷ ys) x all last = (all.0, all_pushed P ys x all.1 last)

  all_mapped : (P Q : X → Type 0) (xs : List X) → ((x : X) → P x → Q x) → AllByRecursion P xs → AllByRecursion Q xs
  all_mapped P Q [] f all = tt
  all_mapped P Q (x ∷ xs) f all = (f x all.0, all_mapped P Q xs f all.1)

  -- one more that is no fault, or does not stand before the first one
  first_stays : (xs : List X) (x : X) (m : Mark) → IsFirst mark Is xs m →
      (Is x → is_before (mark x).place m.place ≡ false) → IsFirst mark Is (xs ++ x ∷ []) m
  first_stays _ x _ (here {x = y} {xs = ys} is all) behind =
      here is (all_pushed (λ z. Is z → is_before (mark z).place (mark y).place ≡ false) ys x all behind)
  first_stays _ x m (later {x = y} {xs = ys} rest before) behind = later (first_stays ys x m rest behind) before

  -- one more that is a fault, and stands before all that are
  alone : (xs : List X) (x : X) → Is x →
      AllByRecursion (λ y. Is y → is_before (mark x).place (mark y).place ≡ true) xs →
      IsFirst mark Is (xs ++ x ∷ []) (mark x)
  alone [] x is all = here is tt
  alone (y ∷ ys) x is all = later (alone ys x is all.1) all.0

  -- one more that is a fault, and stands before the first one
  first_anew : (xs : List X) (x : X) (m : Mark) → Is x → is_before (mark x).place m.place ≡ true →
      IsFirst mark Is xs m → IsFirst mark Is (xs ++ x ∷ []) (mark x)
  first_anew _ x _ is before (here {x = y} {xs = ys} is_y all) =
      later (alone ys x is (all_mapped (λ z. Is z → is_before (mark z).place (mark y).place ≡ false)
      (λ z. Is z → is_before (mark x).place (mark z).place ≡ true) ys
      (λ z h is_z. before_not_after (mark x).place (mark y).place (mark z).place before (h is_z)) all)) (λ _. before)
  first_anew _ x m is before (later {x = y} {xs = ys} rest earlier) =
      later (first_anew ys x m is before rest)
      (λ is_y. is_before-trans (mark x).place m.place (mark y).place before (earlier is_y))

  -- whether something stands before what was found
  abbrev pub is_earlier : X → Option Mark → Bool
  is_earlier x None = true
  is_earlier x (Some m) = is_before (mark x).place m.place

  -- one more: what was found says whether it is a fault that stands before the first one
  pub first_of_more : (xs : List X) (x : X) (o : Option Mark) (found : Bool) → (found ≡ true → Is x) →
      (found ≡ true → is_earlier x o ≡ true) → (found ≡ false → is_earlier x o ≡ true → ¬ Is x) →
      IsFirstOf mark Is xs o → IsFirstOf mark Is (xs ++ x ∷ []) (if found then Some (mark x) else o)
  first_of_more xs x None true is before misses none =
      alone xs x (is refl) (all_mapped (λ y. ¬ Is y) (λ y. Is y → is_before (mark x).place (mark y).place ≡ true) xs
      (λ y none_is holds. absurd (none_is holds)) none)
  first_of_more xs x None false is before misses none =
      all_pushed (λ y. ¬ Is y) xs x none (misses refl refl)
  first_of_more xs x (Some m) true is before misses first = first_anew xs x m (is refl) (before refl) first
  first_of_more xs x (Some m) false is before misses first = first_stays xs x m first behind
    where
      by : Is x → (b : Bool) → is_before (mark x).place m.place ≡ b → is_before (mark x).place m.place ≡ false
      by holds true e = absurd (misses refl e holds)
      by holds false e = e

      behind : Is x → is_before (mark x).place m.place ≡ false
      behind holds = by holds (is_before (mark x).place m.place) refl

-- the first of some faults is that of others that hold of the same
pub first_same : {X : Type 0} (mark : X → Mark) (Is Or : X → Type 0) → ((x : X) → Is x → Or x) →
    ((x : X) → Or x → Is x) → (xs : List X) (m : Mark) → IsFirst mark Is xs m → IsFirst mark Or xs m
first_same mark Is Or to from _ _ (here {x = x} {xs = xs} is all) =
    here (to x is) (all_mapped mark Is (λ y. Is y → is_before (mark y).place (mark x).place ≡ false)
    (λ y. Or y → is_before (mark y).place (mark x).place ≡ false) xs (λ y h or_y. h (from y or_y)) all)
first_same mark Is Or to from _ m (later {x = x} {xs = xs} rest before) =
    later (first_same mark Is Or to from xs m rest) (λ or_x. before (from x or_x))
