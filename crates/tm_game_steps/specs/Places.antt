-- Where processes stand, as terms.
use Rattle.std.specs.Prelude.{◌≡◌, ℕ, ◌+◌, ◌==◌, Bool, Option, Some, List, Vec, All, Any, map, slice_get, slice_index}
use Rattle.std.specs.Option.{option_and_then}
use Rattle.std.specs.declared.alloc.Global.{Global}
use Rattle.tm_base.specs.Arithmetic.{bit}
use Rattle.tm_game_steps.specs.declared.places.Place.{Place}
use Rattle.tm_term.specs.declared.term.TermId.{TermId}
use Rattle.tm_term.specs.Table.{Table, IsKnown, width_of}
use Rattle.tm_term.specs.Value.{value_of}

-- rows of truths as lists
abbrev pub flags_of : List (Vec Bool Global) → List (List Bool)
flags_of rows = map (λ row. row.items) rows

-- the truth at a place of a row, where there is one
abbrev pub flag_at : List (List Bool) → ℕ → ℕ → Option Bool
flag_at rows p k = option_and_then (λ row. slice_get row k) (slice_get rows p)

-- a term of one bit is 1 exactly where an input has a value
pub record IsTest (t : Table) (input value : ℕ) (id : TermId) : Type 0 where
  pub known : IsKnown t id
  pub width : width_of t id ≡ 1
  pub is : (values : List ℕ) → value_of t values id ≡ bit (slice_index values input == value)

-- a place is one of the rows, and its term tells whether its process stands there
pub record IsPlace (t : Table) (rows : List (List Bool)) (first : ℕ) (place : Place) : Type 0 where
  pub there : flag_at rows place.process place.location ≡ Some place.magic
  pub stands : IsTest t (first + place.process) place.location place.stands

-- a place is this location of this process, and a magic block or not
pub record IsAt (p k : ℕ) (magic : Bool) (place : Place) : Type 0 where
  pub process : place.process ≡ p
  pub location : place.location ≡ k
  pub block : place.magic ≡ magic

-- each place of the rows is listed, and no other ones
pub record ArePlaces (t : Table) (rows : List (List Bool)) (first : ℕ) (places : List Place) : Type 0 where
  pub each : All (IsPlace t rows first) places
  pub all : (p k : ℕ) (magic : Bool) → flag_at rows p k ≡ Some magic → Any (IsAt p k magic) places
