-- The first steps of a list.
use Rattle.std.specs.Prelude.{◌≡◌, ℕ, ◌<◌, true, List, slice_index_or}
use Rattle.tm_dd.specs.Table.{Table}
use Rattle.tm_game_bits.specs.declared.step.StepDiagrams.{StepDiagrams}
use Rattle.tm_game_bits.specs.Functions.{Assignment, Function, GameFunctions, after}
use Rattle.tm_game_bits.specs.Forcing.{Keeps, IsGoodForSome}
use Rattle.tm_game_bits.specs.Diagrams.{step_of}

-- from a valid state no stutter or one of the first steps errs or leaves the set
pub record IsCalmBelow (s : Table) (g : GameFunctions) (within : Function) (steps : List StepDiagrams) (count : ℕ)
    (v : Assignment) : Type 0 where
  pub valid : g.valid v ≡ true
  pub stutter : within (after g.stutter v) ≡ true
  pub each : (k : ℕ) (d : StepDiagrams) → k < count → Keeps (step_of s (slice_index_or steps k d)) within v

-- one of the first steps is good for some arguments
abbrev pub HasGoodBelow : Table → Function → Function → List StepDiagrams → ℕ → Assignment → Type 0
HasGoodBelow s turn within steps count v =
    (k : ℕ) × (k < count) × ((d : StepDiagrams) → IsGoodForSome turn within v (step_of s (slice_index_or steps k d)))
