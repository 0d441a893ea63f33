-- The simple parts: numbers, lists, objects and their keys.
use Rattle.std.specs.Prelude.{ℕ, ◌==◌, List, Option, Some, None, ok_or, option_and_then, nat_lt, if◌then◌else◌, bytes_eq, Ok, Err, ⊤}
use Rattle.std.specs.List.{list_any}
use Rattle.serde_json.specs.Data.{Data, Items, Members, no_members, member}
use Rattle.serde_json.specs.Find.{as_number, as_u64, as_array, as_object, get_member}
use Rattle.serde_json.specs.Events.{items_len}
use Rattle.tm_cert.specs.declared.refusal.BadCert.TheVariants.{Shape, Range}
use Rattle.tm_cert.specs.Judged.{Judged, and_then}

-- a number without sign, fraction and exponent, below 2 ^ 64
abbrev pub number_at : List ℕ → Data → Judged ℕ
number_at path d = ok_or (option_and_then as_u64 (as_number d)) (Shape path)

-- a number that is out of range unless it is below the limit
abbrev pub below : List ℕ → ℕ → ℕ → Judged ℕ
below path limit n = if nat_lt n limit then Ok n else Err (Range path)

-- such a number, its shape judged first
abbrev pub number_below_at : List ℕ → ℕ → Data → Judged ℕ
number_below_at path limit d = and_then (number_at path d) (below path limit)

-- a list
abbrev pub items_at : List ℕ → Data → Judged Items
items_at path d = ok_or (as_array d) (Shape path)

-- another number of parts is out of range
abbrev pub counted : List ℕ → ℕ → Items → Judged Items
counted path count items = if items_len items == count then Ok items else Err (Range path)

-- a list of so many parts
abbrev pub counted_items_at : List ℕ → ℕ → Data → Judged Items
counted_items_at path count d = and_then (items_at path d) (counted path count)

-- an object
abbrev pub members_at : List ℕ → Data → Judged Members
members_at path d = ok_or (as_object d) (Shape path)

-- the value of a key, which has to be there
abbrev pub value_at : List ℕ → List ℕ → Members → Judged Data
value_at path key ms = ok_or (get_member key ms) (Shape path)

-- the first key of an object, in byte order, that is none of these
abbrev pub other_key : List (List ℕ) → Members → Option (List ℕ)
other_key keys no_members = None
other_key keys (member key d ms) = if list_any (bytes_eq key) keys then other_key keys ms else Some key

-- no key is another one; else its path is the fault
abbrev pub no_key : (List ℕ → List ℕ) → Option (List ℕ) → Judged ⊤
no_key path_of None = Ok tt
no_key path_of (Some key) = Err (Shape (path_of key))

-- the object has no keys but these
abbrev pub only_keys : (List ℕ → List ℕ) → List (List ℕ) → Members → Judged ⊤
only_keys path_of keys ms = no_key path_of (other_key keys ms)
