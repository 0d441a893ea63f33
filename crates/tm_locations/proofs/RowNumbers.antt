-- The first row of a place and a trail is that of the location which is reached there.
use Rattle.std.proofs.Common.{◌≡◌, ℕ, suc, ◌+◌, ◌<◌, ◌≤◌, Bool, true, false, cond, Option, None, Some, List, [], ◌∷◌, length, get_or, nat_lt, position, refl, sym, ap, ◌∙◌, arith}
use Rattle.std.specs.Prelude.{not, unwrap_or, ◌&&◌}
use Rattle.std.proofs.lemmas.Bool.{ltb-false}
use Rattle.std.proofs.lemmas.Option.{same_Some, slice_get-get_or}
use Rattle.std.specs.List.{AllZip, position_or_len}
use Rattle.tm_base.specs.declared.place.Place.{Place}
use Rattle.tm_syntax.specs.Design.{DesignTree}
use Rattle.tm_syntax.specs.Design.Locations.{Location, is_location_at, location_number, locations, same_place}
use Rattle.tm_locations.specs.Locations.{AreLocations, IsRow, IsTrail, LocationTable}
use Rattle.tm_locations.specs.Inner.Numbers.{is_row_at}
use Rattle.tm_locations.specs.declared.table.LocationRow.{LocationRow}
use Rattle.tm_locations.specs.declared.table.RestNode.{RestNode}
use Rattle.tm_locations.specs.declared.table.TrailNode.{TrailNode}
use Rattle.tm_locations.proofs.TrailNumbers.{trails-by_number}

module _ (ts : List TrailNode) (rs : List RestNode) (at : Place) (trail : ℕ) (places : List Place)
    (is : IsTrail ts trail places) where
  row-test : (row : LocationRow) (l : Location) → IsRow ts rs row l →
      is_location_at at places l ≡ is_row_at at trail row
  row-test row l stands = λ i. same_place at (stands.at i) && trails-by_number ts is stands.trail i

  rows-position : (rows : List LocationRow) (ls : List Location) → AllZip (IsRow ts rs) rows ls →
      position_or_len (is_location_at at places) ls ≡ position_or_len (is_row_at at trail) rows
  rows-position [] [] all = refl
  rows-position [] (l ∷ ls) all = absurd all
  rows-position (row ∷ rows) [] all = absurd all
  rows-position (row ∷ rows) (l ∷ ls) all = λ i.
      cond (not (row-test row l all.0 i)) (1 + rows-position rows ls all.1 i) 0

-- the first index at which a test passes is within the list, or its length
position-bounded : {X : Type 0} (p : X → Bool) (xs : List X) → position_or_len p xs ≤ length xs
position-bounded p [] = omega arith
position-bounded p (x ∷ xs) = by (p x) (position-bounded p xs)
  where
    by : (b : Bool) → position_or_len p xs ≤ length xs → cond (not b) (1 + position_or_len p xs) 0 ≤ suc (length xs)
    by true rest = omega arith
    by false rest = omega (arith, rest)

found-or_length : {X : Type 0} (p : X → Bool) (xs : List X) (o : Option ℕ) → o ≡ position p xs →
    unwrap_or o (length xs) ≡ position_or_len p xs
found-or_length p xs o is =
    ap (λ o. unwrap_or o (length xs)) is ∙ by (nat_lt (position_or_len p xs) (length xs)) refl
  where
    by : (b : Bool) → nat_lt (position_or_len p xs) (length xs) ≡ b →
        unwrap_or (cond b (Some (position_or_len p xs)) None) (length xs) ≡ position_or_len p xs
    by true e = refl
    by false e =
        let above = ltb-false (position_or_len p xs) (length xs) e in
        let below = position-bounded p xs in
        omega (arith, above, below)

-- the number of a location, by the index of the first row of its place and trail
pub row-number : (t : LocationTable) (d : DesignTree) (p : ℕ) → AreLocations t d p → (at : Place) (trail : ℕ)
    (places : List Place) → IsTrail t.trails trail places → (o : Option ℕ) → o ≡ position (is_row_at at trail) t.rows →
    unwrap_or o (length t.rows) + 1 ≡ location_number d p at places
row-number t d p are at trail places is o found =
    ap (λ n. n + 1)
    (found-or_length (is_row_at at trail) t.rows o found
    ∙ sym (rows-position t.trails t.rests at trail places is t.rows (locations d p) are.rows))

-- what is read at an index within a list, whatever stands for an item elsewhere
pub row-read : (rows : List LocationRow) (k : ℕ) (d e : LocationRow) → k < length rows →
    get_or rows k d ≡ get_or rows k e
row-read rows k d e within =
    same_Some (get_or rows k d) (get_or rows k e)
    (sym (slice_get-get_or rows k d within) ∙ slice_get-get_or rows k e within)
