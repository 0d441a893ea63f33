-- The bits of a state as diagrams. Here `levels` has the level of each place, `bits` the diagrams of the bits of the
-- first places, s and t are the tables of a store before and after, and v gives each level's value.
use Rattle.std.specs.Prelude.{◌≡◌, ℕ, ◌+◌, ◌≤◌, ⊤, Bool, false, List, [], ◌∷◌, ◌++◌, All, Some, length, map, sum_by, slice_get, slice_index_or, if◌then◌else◌}
use Rattle.std.specs.List.{range_with_len}
use Rattle.tm_base.specs.Bits.{number_of}
use Rattle.tm_dd.specs.declared.node.NodeId.{NodeId}
use Rattle.tm_dd.specs.Table.{Table, Knows, means}
use Rattle.tm_ddops.specs.Manager.{IsFunction}
use Rattle.tm_reorder.specs.declared.fields.Field.{Field}
use Rattle.tm_reorder.specs.Fields.{IsField}

-- these are fields, and there are places for their bits
pub record HavePlaces (count : ℕ) (fields : List Field) : Type 0 where
  pub each : All IsField fields
  pub room : sum_by (λ (f : Field). f.width) fields ≤ count

-- the values of places
abbrev pub by_place : List ℕ → (ℕ → Bool) → ℕ → Bool
by_place levels v place = v (slice_index_or levels place 0)

-- a number whose bits stand from a place on is at most the last value of its field
abbrev pub IsWithin : Field → (ℕ → Bool) → ℕ → Type 0
IsWithin f values place = number_of (map values (range_with_len place f.width)) ≤ f.last

-- so are numbers that stand one behind the other
abbrev pub AreWithin : List Field → (ℕ → Bool) → ℕ → Type 0
AreWithin [] values place = ⊤
AreWithin (f ∷ fs) values place = IsWithin f values place × AreWithin fs values (place + f.width)

-- all diagrams are known
abbrev pub AreBits : Table → List NodeId → Type 0
AreBits s bits = (place : ℕ) (id : NodeId) → slice_get bits place ≡ Some id → Knows s id

-- each diagram has the value of its place
abbrev pub AreRight : Table → List ℕ → List NodeId → (ℕ → Bool) → Type 0
AreRight s levels bits v =
    (place : ℕ) (id : NodeId) → slice_get bits place ≡ Some id → means s id v ≡ by_place levels v place

-- the clamped bit of a level was put behind others, and `next` is where it and those before it are 1 that the last
-- value has, if `tight` is where those before it are
pub record IsOneMore (s t : Table) (level : ℕ) (one : Bool) (tight : NodeId) (before after : List NodeId)
    (next : NodeId) : Type 0 where
  pub id : NodeId
  pub items : after ≡ before ++ id ∷ []
  pub here : IsFunction t id (λ v. if one then v level else (if means s tight v then false else v level))
  pub further : IsFunction t next (λ v. if one then (if means s tight v then v level else false) else means s tight v)

-- so many bits were put behind others, and are right, at such values, where the others are
pub record ArePushed (s t : Table) (levels : List ℕ) (many : ℕ) (IsSuch : (ℕ → Bool) → Type 0)
    (before after : List NodeId) : Type 0 where
  pub count : length after ≡ length before + many
  pub known : AreBits t after
  pub right : (v : ℕ → Bool) → AreRight s levels before v → IsSuch v → AreRight t levels after v

-- these are the bits of all places, right where each number is within its field
pub record AreClamped (s : Table) (levels : List ℕ) (fields : List Field) (bits : List NodeId) : Type 0 where
  pub count : length bits ≡ length levels
  pub known : AreBits s bits
  pub right : (v : ℕ → Bool) → AreWithin fields (by_place levels v) 0 → AreRight s levels bits v
