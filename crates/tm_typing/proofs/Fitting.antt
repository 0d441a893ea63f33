-- What a type is where it was found to fit.
use Rattle.std.proofs.Common.{◌≡◌, ℕ, Bool, true, false, Option, None, Some, List, [], ◌∷◌, ◌++◌, ◌&&◌, refl, sym, ap, arith, rules}
use Rattle.std.proofs.lemmas.Bool.Decides.{nat_tests}
use Rattle.std.specs.Prelude.{nat_eq}
use mathlib.Core.Bool.{true≢false}
use Rattle.std.specs.Cmp.Lexicographic.{pointwise}
use Rattle.std.specs.List.{AllByRecursion}
use Rattle.tm_base.specs.declared.place.Place.{Place}
use Rattle.tm_syntax.specs.declared.design.Ty.{Ty}
use Rattle.tm_syntax.specs.declared.design.Ty.TheVariants as types
use Rattle.tm_syntax.specs.Faults.Marks.{place_unless}
use Rattle.tm_syntax.specs.Faults.Operands.{same_type, finding, may_be_bool, is_number_typed, judged}

-- nothing is both false and true
pub contrary : {X : Type 0} → false ≡ true → X
contrary e = absurd (true≢false (sym e))

-- a list with a first item is not empty
pub not_empty : {A X : Type 0} {x : A} {xs : List A} → x ∷ xs ≡ [] → X
not_empty e = absurd cc

-- where two lists in a row are empty, each is
pub both_empty : {A : Type 0} (xs ys : List A) → xs ++ ys ≡ [] → (xs ≡ []) × (ys ≡ [])
both_empty [] ys e = (refl, e)
both_empty (x ∷ xs) ys e = not_empty e

-- what holds of all items of two lists in a row holds of those of each
pub all_of_both : {A : Type 0} (P : A → Type 0) (xs ys : List A) → AllByRecursion P (xs ++ ys) →
    AllByRecursion P xs × AllByRecursion P ys
all_of_both P [] ys all = (tt, all)
all_of_both P (x ∷ xs) ys all = let rest = all_of_both P xs ys all.1 in ((all.0, rest.0), rest.1)

-- where both of two tests pass, each does
pub both_true : (a b : Bool) → a && b ≡ true → (a ≡ true) × (b ≡ true)
both_true true b e = (refl, e)
both_true false b e = contrary e

-- where there is no place at fault, what is judged fits, and nothing within it is at fault
pub fits_there : (fits : Bool) (at : Place) → place_unless fits at ≡ [] → fits ≡ true
fits_there true at e = refl
fits_there false at e = not_empty e

pub judged_well : (within : List Place) (fits : Bool) (at : Place) → judged within fits at ≡ [] →
    (fits ≡ true) × (within ≡ [])
judged_well within fits at e =
    let parts = both_empty (place_unless fits at) within e in (fits_there fits at parts.0, parts.1)

-- texts that agree byte by byte are one
same_bytes : (m n : List ℕ) → pointwise nat_eq m n ≡ true → m ≡ n
same_bytes m n e = search rules

-- types that are found to be one are one
pub same_types : (a b : Ty) → same_type a b ≡ true → a ≡ b
same_types types.Bool types.Bool e = refl
same_types (types.Uint m) (types.Uint n) e = ap types.Uint (grind (arith, nat_tests))
same_types (types.Enum m) (types.Enum n) e = ap types.Enum (same_bytes m n e)
same_types types.Bool (types.Uint _) e = contrary e
same_types types.Bool (types.Enum _) e = contrary e
same_types (types.Uint _) types.Bool e = contrary e
same_types (types.Uint _) (types.Enum _) e = contrary e
same_types (types.Enum _) types.Bool e = contrary e
same_types (types.Enum _) (types.Uint _) e = contrary e

-- what may stand for a truth, and has no fault, is of that type
pub is_bool : (own : Option Ty) → may_be_bool (finding [] own) ≡ true → own ≡ Some types.Bool
is_bool None e = contrary e
is_bool (Some types.Bool) e = refl
is_bool (Some (types.Uint _)) e = contrary e
is_bool (Some (types.Enum _)) e = contrary e

-- what has a type of numbers
pub is_number : (own : Option Ty) → is_number_typed (finding [] own) ≡ true → (w : ℕ) × (own ≡ Some (types.Uint w))
is_number None e = contrary e
is_number (Some types.Bool) e = contrary e
is_number (Some (types.Uint w)) e = (w, refl)
is_number (Some (types.Enum _)) e = contrary e
