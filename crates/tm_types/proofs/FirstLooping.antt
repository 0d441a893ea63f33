-- The first of the things that pass a test is the first fault, where the test tells which are faults.
use Rattle.std.proofs.Common.{◌≡◌, Bool, true, false, Option, None, Some, List, [], ◌∷◌, ◌++◌, unwrap_or, refl, sym, ap, ◌∙◌, subst, true≢false, arith}
use Rattle.std.proofs.lemmas.Bool.Decides.{nat_tests}
use Rattle.std.specs.Prelude.{◌↔◌, if◌then◌else◌}
use Rattle.std.specs.List.{AllByRecursion, flat_map}
use Rattle.tm_base.specs.declared.place.Place.{Place}
use Rattle.tm_syntax.specs.Places.{is_before, earlier}
use Rattle.tm_syntax.specs.Faults.Marks.{Mark, first_mark}
use Rattle.tm_syntax.specs.Faults.{IsFirst, here, later}
use Rattle.tm_names.proofs.Repeats.{not_before_itself, not_before_through}

-- what holds of all holds of all in a weaker form
pub all_weaker : {X : Type 0} (P Q : X → Type 0) → ((x : X) → P x → Q x) → (xs : List X) → AllByRecursion P xs →
    AllByRecursion Q xs
all_weaker P Q weaker [] all = tt
all_weaker P Q weaker (x ∷ xs) all = (weaker x all.0, all_weaker P Q weaker xs all.1)

-- a place that stands before another one does not stand behind it
not_behind : (a b : Place) → is_before a b ≡ true → is_before b a ≡ false
not_behind a b before = grind (arith, nat_tests)

-- the thing in an option
pub inside : {X : Type 0} {x y : X} → Some x ≡ Some y → x ≡ y
inside {x = x} same = ap (λ o. unwrap_or o x) same

pub not_nothing : {X : Type 0} {x : X} → Some x ≡ None → ⊥
not_nothing same = cc

module _ {X : Type 0} (mark : X → Mark) (Is : X → Type 0) (test : X → Bool) (tells : (x : X) → (test x ≡ true) ↔ Is x)
  where
    -- the fault that a thing is, if it passes
    abbrev pub mark_if : X → List Mark
    mark_if x = if test x then (mark x ∷ []) else []

    not_one : (x : X) → test x ≡ false → ¬ Is x
    not_one x fails is = true≢false (sym ((tells x).1 is) ∙ fails)

    -- where none passes, none is a fault
    pub none_is : (xs : List X) → first_mark (flat_map mark_if xs) ≡ None → AllByRecursion (λ x. ¬ Is x) xs
    none_is [] none = tt
    none_is (x ∷ xs) none = by (none_is xs) (test x) refl none
      where
        by : (first_mark (flat_map mark_if xs) ≡ None → AllByRecursion (λ y. ¬ Is y) xs) → (b : Bool) → test x ≡ b →
            first_mark ((if b then (mark x ∷ []) else []) ++ flat_map mark_if xs) ≡ None →
            AllByRecursion (λ y. ¬ Is y) (x ∷ xs)
        by others true passes none = absurd (not_nothing none)
        by others false fails none = (not_one x fails, others none)

    -- the first one, before which none is
    record IsFound (xs : List X) (m : Mark) : Type 0 where
      first : IsFirst mark Is xs m
      none_before : AllByRecursion (λ y. Is y → is_before (mark y).place m.place ≡ false) xs

    found : (xs : List X) (m : Mark) → first_mark (flat_map mark_if xs) ≡ Some m → IsFound xs m
    found [] m some = absurd (not_nothing (sym some))
    found (x ∷ xs) m some = by (found xs) (test x) refl some
      where
        none_passes : first_mark (flat_map mark_if xs) ≡ None → test x ≡ true → IsFound (x ∷ xs) (mark x)
        none_passes none passes =
            let others : AllByRecursion (λ y. Is y → is_before (mark y).place (mark x).place ≡ false) xs =
            all_weaker (λ y. ¬ Is y) (λ y. Is y → is_before (mark y).place (mark x).place ≡ false)
            (λ y not is. absurd (not is)) xs (none_is xs none) in
            record {
              first = here ((tells x).0 passes) others;
              none_before = ((λ _. not_before_itself (mark x).place), others);
            }

        behind : (n : Mark) → IsFound xs n → is_before n.place (mark x).place ≡ true → IsFound (x ∷ xs) n
        behind n is before = record {
          first = later is.first (λ _. before);
          none_before = ((λ _. not_behind n.place (mark x).place before), is.none_before);
        }

        in_front : (n : Mark) → IsFound xs n → is_before n.place (mark x).place ≡ false → test x ≡ true →
            IsFound (x ∷ xs) (mark x)
        in_front n is after passes =
            let others : AllByRecursion (λ y. Is y → is_before (mark y).place (mark x).place ≡ false) xs =
            all_weaker (λ y. Is y → is_before (mark y).place n.place ≡ false)
            (λ y. Is y → is_before (mark y).place (mark x).place ≡ false)
            (λ y not one. not_before_through (mark y).place n.place (mark x).place (not one) after) xs
            is.none_before in
            record {
              first = here ((tells x).0 passes) others;
              none_before = ((λ _. not_before_itself (mark x).place), others);
            }

        by_place : (n : Mark) (b : Bool) → is_before n.place (mark x).place ≡ b → IsFound xs n → test x ≡ true →
            (if b then n else mark x) ≡ m → IsFound (x ∷ xs) m
        by_place n true before is passes same = subst (λ (k : Mark). IsFound (x ∷ xs) k) same (behind n is before)
        by_place n false after is passes same =
            subst (λ (k : Mark). IsFound (x ∷ xs) k) same (in_front n is after passes)

        of_rest : ((n : Mark) → first_mark (flat_map mark_if xs) ≡ Some n → IsFound xs n) → (o : Option Mark) →
            first_mark (flat_map mark_if xs) ≡ o → test x ≡ true →
            Some (earlier (λ (k : Mark). k.place) (mark x) o) ≡ Some m → IsFound (x ∷ xs) m
        of_rest others None none passes same =
            subst (λ (k : Mark). IsFound (x ∷ xs) k) (inside same) (none_passes none passes)
        of_rest others (Some n) some passes same =
            by_place n (is_before n.place (mark x).place) refl (others n some) passes (inside same)

        by : ((n : Mark) → first_mark (flat_map mark_if xs) ≡ Some n → IsFound xs n) → (b : Bool) → test x ≡ b →
            first_mark ((if b then (mark x ∷ []) else []) ++ flat_map mark_if xs) ≡ Some m → IsFound (x ∷ xs) m
        by others true passes some = of_rest others (first_mark (flat_map mark_if xs)) refl passes some
        by others false fails some =
            let is : IsFound xs m = others m some in
            record {
              first = later is.first (λ one. absurd (not_one x fails one));
              none_before = ((λ one. absurd (not_one x fails one)), is.none_before);
            }

    pub first_is : (xs : List X) (m : Mark) → first_mark (flat_map mark_if xs) ≡ Some m → IsFirst mark Is xs m
    first_is xs m some = (found xs m some).first
