-- Steps of the driver that are allowed with their arguments.
use Rattle.std.specs.Prelude.{◌≡◌, ℕ, ◌+◌, ◌<◌, List, slice_index, slice_index_or}
use Rattle.tm_game_bits.specs.Forcing.{IsAllowed}
use Rattle.tm_game_bits.specs.Functions.{Assignment, GameFunctions, StepFunctions}

-- the step of this number is allowed
abbrev pub IsPermitted : GameFunctions → ℕ → Assignment → Type 0
IsPermitted g index v = (d : StepFunctions) → IsAllowed g.turn (slice_index_or g.driver index d) v

-- a process leaves by the step of this number, and that is allowed
abbrev pub IsPermittedLeave : GameFunctions → List ℕ → ℕ → ℕ → ℕ → Assignment → Type 0
IsPermittedLeave g movers first p index v = (slice_index movers index ≡ p) × IsPermitted g (first + index) v

-- one of the first steps by which processes leave is such a step
abbrev pub HasPermittedLeaveBelow : GameFunctions → List ℕ → ℕ → ℕ → ℕ → Assignment → Type 0
HasPermittedLeaveBelow g movers first p count v =
    (index : ℕ) × (index < count) × IsPermittedLeave g movers first p index v
