-- The nodes of reduced ordered decision diagrams (Bryant 1986): 0 is false, 1 is true, and `k + 2` is the entry `k`.
use Rattle.std.specs.Prelude.{ℕ, ◌+◌, ◌-◌, ◌==◌, List, [], length, Bool, true, ◌&&◌, ◌||◌, not, nat_lt, if◌then◌else◌, Option, Some, None, Ok, Err, slice_get}
use Rattle.std.specs.List.{list_any}
use Rattle.serde_json.specs.Data.{Data, Items, no_items, item}
use Rattle.tm_cert.specs.declared.cert.Entry.{Entry}
use Rattle.tm_cert.specs.declared.refusal.BadCert.TheVariants.{Node, Shape}
use Rattle.tm_cert.specs.Judged.{Judged, and_then, each}
use Rattle.tm_cert.specs.Part.{number_at, items_at}
use Rattle.tm_cert.specs.Path.{index_path}

-- how many ids these nodes have, the constants among them
abbrev pub ids_of : List Entry → ℕ
ids_of nodes = length nodes + 2

-- the two entries are the same
abbrev pub same_entry : Entry → Entry → Bool
same_entry one other = (one.level == other.level) && ((one.lo == other.lo) && (one.hi == other.hi))

-- the level is above that of a node that may be there
abbrev pub is_above : ℕ → Option Entry → Bool
is_above level None = true
is_above level (Some child) = nat_lt level child.level

-- the level is above that of a child, if the child is no constant
abbrev pub is_above_child : List Entry → ℕ → ℕ → Bool
is_above_child earlier level id = nat_lt id 2 || is_above level (slice_get earlier (id - 2))

-- the entry is a node over those before it: its children stand before it, differ, and have greater levels
abbrev pub is_over : ℕ → List Entry → Entry → Bool
is_over bits earlier e =
    nat_lt e.level bits
    && (nat_lt e.lo (ids_of earlier)
    && (nat_lt e.hi (ids_of earlier)
    && (not (e.lo == e.hi)
    && (is_above_child earlier e.level e.lo
    && is_above_child earlier e.level e.hi))))

-- the entry stands among these
abbrev pub is_listed : List Entry → Entry → Bool
is_listed nodes e = list_any (same_entry e) nodes

-- the three numbers of an entry: a level and two children
abbrev pub three_numbers : List ℕ → Data → Data → Data → Judged Entry
three_numbers path level lo hi =
    and_then (number_at (index_path path 0) level)
    (λ level. and_then (number_at (index_path path 1) lo)
    (λ lo. and_then (number_at (index_path path 2) hi)
    (λ hi. Ok (record { level = level; lo = lo; hi = hi }))))

-- another number of parts than three is the wrong kind of value
abbrev pub three_at : List ℕ → Items → Judged Entry
three_at path (item level (item lo (item hi no_items))) = three_numbers path level lo hi
three_at path _ = Err (Shape path)

-- an entry is a fault under its id unless it is a new node
abbrev pub new_node : ℕ → List Entry → Entry → Judged Entry
new_node bits earlier e = if is_over bits earlier e && not (is_listed earlier e) then Ok e else Err
    (Node (ids_of earlier))

-- one entry of the list at a path, beside those before it
abbrev pub entry_at : List ℕ → ℕ → List Entry → Data → Judged Entry
entry_at path bits earlier d =
    let entry_path = index_path path (length earlier) in
    and_then (and_then (items_at entry_path d) (three_at entry_path)) (new_node bits earlier)

-- the list of entries
unfoldable pub nodes_at : List ℕ → ℕ → Data → Judged (List Entry)
nodes_at path bits d = and_then (items_at path d) (each (entry_at path bits) [])
