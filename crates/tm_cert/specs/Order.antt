-- The order of the levels: each place of a state bit once.
use Rattle.std.specs.Prelude.{ℕ, nat_eq, List, [], length, if◌then◌else◌, Ok, Err}
use Rattle.std.specs.List.{list_any}
use Rattle.serde_json.specs.Data.{Data}
use Rattle.tm_cert.specs.declared.refusal.BadCert.TheVariants.{Range}
use Rattle.tm_cert.specs.Judged.{Judged, and_then, each}
use Rattle.tm_cert.specs.Part.{number_below_at, counted_items_at}
use Rattle.tm_cert.specs.Path.{index_path}

-- a place is out of range where it stood earlier
abbrev pub first_time : List ℕ → List ℕ → ℕ → Judged ℕ
first_time path earlier place = if list_any (nat_eq place) earlier then Err (Range path) else Ok place

-- one place of the list at a path, beside those before it
abbrev pub place_at : List ℕ → ℕ → List ℕ → Data → Judged ℕ
place_at path bits earlier d =
    let place_path = index_path path (length earlier) in
    and_then (number_below_at place_path bits d) (first_time place_path earlier)

-- the list, of as many places as there are bits
unfoldable pub order_at : List ℕ → ℕ → Data → Judged (List ℕ)
order_at path bits d = and_then (counted_items_at path bits d) (each (place_at path bits) [])
