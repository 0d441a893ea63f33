-- Trails that stand for no number, and the numbers of locations that they reach.
use Rattle.std.proofs.Common.{◌≡◌, ℕ, suc, ◌+◌, ◌<◌, ◌≤◌, Bool, true, false, cond, Option, None, Some, List, [], ◌∷◌, length, refl, sym, ap, ◌∙◌, subst, arith, true≢false}
use Rattle.std.specs.Prelude.{◌&&◌, IfNone, IfSome, not, slice_get}
use Rattle.std.specs.Cmp.Lexicographic.{pointwise}
use Rattle.std.specs.List.{AllZip, position_or_len}
use Rattle.tm_base.specs.declared.place.Place.{Place}
use Rattle.tm_syntax.specs.declared.tree.Ident.{Ident}
use Rattle.tm_syntax.specs.Design.{DesignTree}
use Rattle.tm_syntax.specs.Design.Locations.{Location, is_location_at, location_number, locations, same_place}
use Rattle.tm_syntax.specs.Design.Work.{call_place}
use Rattle.tm_locations.specs.Locations.{AreLocations, IsRow, IsTrail, LocationTable, call_behind, no_call}
use Rattle.tm_locations.specs.declared.table.LocationRow.{LocationRow}
use Rattle.tm_locations.proofs.TrailNumbers.{both, same_place-is}
use Rattle.tm_flat_bodies.specs.Walks.{IsTrailOf}

-- what stands behind a call has a number where the call has one
behind_is : (l : LocationTable) (at : Place) (trail : List Place) (n : ℕ) → IsTrail l.trails n (at ∷ trail) →
    (k : ℕ) × IsTrail l.trails k trail
behind_is l at trail n is = by is refl
  where
    by : {n : ℕ} {ps : List Place} → IsTrail l.trails n ps → ps ≡ at ∷ trail → (k : ℕ) × IsTrail l.trails k trail
    by no_call e = absurd (cc)
    by (call_behind {n = node} {trail = rest} found later) e =
        let same : rest ≡ trail = cc in (node.then, subst (IsTrail l.trails node.then) same later)

-- where a trail has no number, none has it with a call in front
pub none_behind : (l : LocationTable) (at : Place) (trail : List Place) → IsTrailOf l None trail →
    IsTrailOf l None (at ∷ trail)
none_behind l at trail none n is =
    let later = behind_is l at trail n is in none later.0 later.1

-- trails that are the same by their places are one
same_trail : (xs ys : List Place) → pointwise same_place xs ys ≡ true → xs ≡ ys
same_trail [] [] is = refl
same_trail [] (y ∷ ys) is = absurd (true≢false (sym is))
same_trail (x ∷ xs) [] is = absurd (true≢false (sym is))
same_trail (x ∷ xs) (y ∷ ys) is =
    let parts = both (same_place x y) (pointwise same_place xs ys) is in
    λ i. same_place-is x y parts.0 i ∷ same_trail xs ys parts.1 i

second_false : (a b : Bool) → (b ≡ true → ⊥) → (a && b) ≡ false
second_false false b never = refl
second_false true false never = refl
second_false true true never = absurd (never refl)

-- where a trail has no number, no location is reached by it
nowhere_there : (l : LocationTable) (at : Place) (trail : List Place) → IsTrailOf l None trail →
    (rows : List LocationRow) (ls : List Location) → AllZip (IsRow l.trails l.rests) rows ls →
    position_or_len (is_location_at at trail) ls ≡ length rows
nowhere_there l at trail none [] [] all = refl
nowhere_there l at trail none [] (k ∷ ks) all = absurd all
nowhere_there l at trail none (row ∷ rows) [] all = absurd all
nowhere_there l at trail none (row ∷ rows) (k ∷ ks) all =
    let off : is_location_at at trail k ≡ false =
    second_false (same_place at k.at) (pointwise same_place trail k.trail)
    (λ same. none row.trail
    (subst (λ t. IsTrail l.trails row.trail t) (sym (same_trail trail k.trail same)) all.0.trail)) in
    let later = nowhere_there l at trail none rows ks all.1 in
    let here : cond (not (is_location_at at trail k)) (1 + position_or_len (is_location_at at trail) ks) 0
    ≡ 1 + position_or_len (is_location_at at trail) ks =
    ap (λ b. cond (not b) (1 + position_or_len (is_location_at at trail) ks) 0) off in
    here ∙ (omega (arith, later))

-- so its number is that of the end
pub at_end : (l : LocationTable) (d : DesignTree) (p : ℕ) → AreLocations l d p → (at : Place) (trail : List Place) →
    IsTrailOf l None trail → length l.rows + 1 ≡ location_number d p at trail
at_end l d p are at trail none =
    ap (λ n. n + 1) (sym (nowhere_there l at trail none l.rows (locations d p) are.rows))

-- ---- the number of a location is one of those that there are
bounded : {X : Type 0} (p : X → Bool) (xs : List X) → position_or_len p xs ≤ length xs
bounded p [] = omega arith
bounded p (x ∷ xs) = by (p x) (bounded p xs)
  where
    by : (b : Bool) → position_or_len p xs ≤ length xs → cond (not b) (1 + position_or_len p xs) 0 ≤ suc (length xs)
    by true rest = omega arith
    by false rest = omega (arith, rest)

as_long : (l : LocationTable) (rows : List LocationRow) (ls : List Location) →
    AllZip (IsRow l.trails l.rests) rows ls → length ls ≡ length rows
as_long l [] [] all = refl
as_long l [] (k ∷ ks) all = absurd all
as_long l (row ∷ rows) [] all = absurd all
as_long l (row ∷ rows) (k ∷ ks) all = ap suc (as_long l rows ks all.1)

pub number_within : (l : LocationTable) (d : DesignTree) (p : ℕ) → AreLocations l d p → (at : Place)
    (trail : List Place) → location_number d p at trail < length l.rows + 2
number_within l d p are at trail =
    let below = bounded (is_location_at at trail) (locations d p) in
    let long = as_long l l.rows (locations d p) are.rows in
    omega (arith, below, long)

-- what is found of a trail behind a call
pub behind_found : (l : LocationTable) (at : Place) (trail : ℕ) (calls : List Place) (found : Option ℕ) →
    IfSome found (λ n. (before : List Place) → IsTrail l.trails trail before → IsTrail l.trails n (at ∷ before)) →
    IfNone found ((before : List Place) → IsTrail l.trails trail before → (n : ℕ) → ¬ IsTrail l.trails n
    (at ∷ before)) →
    IsTrail l.trails trail calls → IsTrailOf l found (at ∷ calls)
behind_found l at trail calls None some none is = none calls is
behind_found l at trail calls (Some n) some none is = some calls is

-- the place of a call, by the first name of its path
pub no_place : (names : List Ident) → None ≡ slice_get names 0 → call_place names ≡ []
no_place [] is = refl
no_place (name ∷ names) is = absurd (cc)

pub first_place : (names : List Ident) (name : Ident) → Some name ≡ slice_get names 0 →
    call_place names ≡ name.place ∷ []
first_place [] name is = absurd (cc)
first_place (first ∷ names) name is = let same : name ≡ first = cc in ap (λ (n : Ident). n.place ∷ []) (sym same)
