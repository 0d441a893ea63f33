-- What is done before a place of a table, row by row.
use Rattle.std.specs.Prelude.{◌≡◌, ℕ, ◌<◌, ◌⊎◌, Bool, Some, List, All, Any}
use Rattle.tm_game_steps.specs.declared.places.Place.{Place}
use Rattle.tm_game_steps.specs.Places.{IsAt, IsPlace, flag_at}
use Rattle.tm_term.specs.Table.{Table}

-- a place comes before another: in an earlier row, or earlier in its row
abbrev pub IsBefore : ℕ → ℕ → ℕ → ℕ → Type 0
IsBefore row end p k = (p < row) ⊎ ((p ≡ row) × (k < end))

-- each place before one is listed, and no other ones
pub record ArePlacesBelow (t : Table) (rows : List (List Bool)) (first row end : ℕ) (places : List Place) : Type 0 where
  pub each : All (IsPlace t rows first) places
  pub all : (p k : ℕ) (magic : Bool) → flag_at rows p k ≡ Some magic → IsBefore row end p k →
      Any (IsAt p k magic) places
