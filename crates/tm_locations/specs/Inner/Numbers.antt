-- What the first row of a place and a trail is found by.
use Rattle.std.specs.Prelude.{ℕ, Bool, Option, ◌&&◌, nat_eq}
use Rattle.std.specs.Map.{lookup}
use Rattle.tm_base.specs.declared.place.Place.{Place}
use Rattle.tm_syntax.specs.Design.Locations.{same_place}
use Rattle.tm_locations.specs.declared.numbers.Arrival.{Arrival}
use Rattle.tm_locations.specs.declared.numbers.LocationNumbers.{LocationNumbers}
use Rattle.tm_locations.specs.declared.table.LocationRow.{LocationRow}

-- whether two places are one, and the numbers of their trails
abbrev pub same_arrival : Arrival → Arrival → Bool
same_arrival a b = same_place a.at b.at && nat_eq a.trail b.trail

-- the index that stands beside the first entry of this place and trail
abbrev pub first_at : LocationNumbers → Arrival → Option ℕ
first_at n a = lookup (same_arrival a) n.first.entries

-- whether a row is of a place and of the trail of a number
abbrev pub is_row_at : Place → ℕ → LocationRow → Bool
is_row_at at trail row = same_place at row.at && nat_eq trail row.trail
