-- Steps of the driver that are good with their arguments at a state.
use Rattle.std.specs.Prelude.{◌≡◌, ℕ, ◌+◌, ◌<◌, List, slice_index, slice_index_or}
use Rattle.tm_game_bits.specs.Forcing.{IsLegalMove}
use Rattle.tm_game_bits.specs.Functions.{Assignment, Function, GameFunctions, StepFunctions}

-- the step of this number is good
abbrev pub IsGoodStep : GameFunctions → Function → ℕ → Assignment → Type 0
IsGoodStep g within index v = (d : StepFunctions) → IsLegalMove g within (slice_index_or g.driver index d) v

-- a process leaves by the step of this number, and that is good
abbrev pub IsGoodLeave : GameFunctions → Function → List ℕ → ℕ → ℕ → ℕ → Assignment → Type 0
IsGoodLeave g within movers first p index v =
    (slice_index movers index ≡ p) × IsGoodStep g within (first + index) v

-- one of the first steps by which processes leave is such a step
abbrev pub HasGoodLeaveBelow : GameFunctions → Function → List ℕ → ℕ → ℕ → ℕ → Assignment → Type 0
HasGoodLeaveBelow g within movers first p count v =
    (index : ℕ) × (index < count) × IsGoodLeave g within movers first p index v
