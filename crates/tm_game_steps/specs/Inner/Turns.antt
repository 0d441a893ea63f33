-- Where a process stands at one of the first places.
use Rattle.std.specs.Prelude.{◌≡◌, ℕ, ◌+◌, ◌<◌, true, List, All, slice_index_or}
use Rattle.tm_game_bits.specs.Functions.{Assignment}
use Rattle.tm_game_steps.specs.declared.places.Place.{Place}
use Rattle.tm_game_steps.specs.Places.{IsTest}
use Rattle.tm_game_steps.specs.Setting.{Setting, has_value, values_at}
use Rattle.tm_term.specs.Table.{Table}

-- the term of each place tells whether its process stands there
abbrev pub AreTests : Table → ℕ → List Place → Type 0
AreTests t first places =
    All (λ (place : Place). IsTest t (first + place.process) place.location place.stands) places

-- a place is a magic block, and its process stands there
abbrev pub IsBlockAt : Setting → Place → Assignment → Type 0
IsBlockAt x place v =
    (place.magic ≡ true) × (has_value (x.first + place.process) place.location (values_at x v) ≡ true)

-- one of the first places is one
abbrev pub HasBlockBelow : Setting → List Place → ℕ → Assignment → Type 0
HasBlockBelow x places count v =
    (i : ℕ) × (i < count) × ((d : Place) → IsBlockAt x (slice_index_or places i d) v)
