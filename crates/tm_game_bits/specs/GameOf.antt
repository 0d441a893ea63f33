-- A game over bits that is a design's: where its steps lead, the moves of the design lead.
use Rattle.std.specs.Prelude.{◌≡◌, ◌≢◌, ◌↔◌, ℕ, ◌≤◌, true, false, List, All, Any, Contains, if◌then◌else◌}
use Rattle.tm_game_bits.specs.Forcing.{WithArguments, WithChoices}
use Rattle.tm_game_bits.specs.Functions.{Assignment, StepFunctions, GameFunctions, after}
use Rattle.tm_sem.specs.declared.state.Move.{Move}
use Rattle.tm_sem.specs.declared.state.Move.TheVariants.{Process}
use Rattle.tm_sem.specs.declared.state.Outcome.{Outcome}
use Rattle.tm_sem.specs.declared.state.Outcome.TheVariants.{Next, Error, NoOutcome}
use Rattle.tm_sem.specs.Step.{IsAllowed, IsEnabled, IsState, Step, is_driver_move, is_driver_turn}
use Rattle.tm_syntax.specs.Design.{DesignTree}
use Rattle.tm_game_bits.specs.Coding.{Coding}

-- what a step leads to
abbrev pub outcome_in : Coding → StepFunctions → Assignment → Outcome
outcome_in c step v =
    if step.legal v then (if step.error v then Error else Next (c.state_of (after step.next v))) else NoOutcome

-- over all its choices a step leads exactly where a move leads at the state over all lists of choices
pub record IsMoveAt (d : DesignTree) (c : Coding) (step : StepFunctions) (move : Move) (v : Assignment) : Type 0 where
  pub outcomes : (w : Assignment) → WithChoices step v w → outcome_in c step w ≢ NoOutcome →
      (choices : List ℕ) × Step d (c.state_of v) move choices (outcome_in c step w)
  pub all : (choices : List ℕ) (o : Outcome) → o ≢ NoOutcome → Step d (c.state_of v) move choices o →
      (w : Assignment) × WithChoices step v w × (outcome_in c step w ≡ o)

-- some choices of a step have an outcome
abbrev pub IsSomewhere : StepFunctions → Assignment → Type 0
IsSomewhere step v = (w : Assignment) × WithChoices step v w × (step.legal w ≡ true)

-- where a step has an outcome, it is a move of the environment
abbrev pub IsEnvironmentMove : DesignTree → Coding → Assignment → StepFunctions → Type 0
IsEnvironmentMove d c v step =
    IsSomewhere step v → (move : Move) × (is_driver_move move ≡ false) × IsMoveAt d c step move v

-- where a step has an outcome with its arguments, it is a move of the driver
abbrev pub IsDriverMove : DesignTree → Coding → Assignment → StepFunctions → Type 0
IsDriverMove d c v step =
    IsSomewhere step v → (move : Move) × (is_driver_move move ≡ true) × IsMoveAt d c step move v

-- for some arguments a step is the move
abbrev pub IsMoveForSome : DesignTree → Coding → Move → Assignment → StepFunctions → Type 0
IsMoveForSome d c move v step = (w : Assignment) × WithArguments step v w × IsMoveAt d c step move w

-- none of a step's arguments is a level of the state
abbrev pub HasArgumentsBehind : ℕ → StepFunctions → Type 0
HasArgumentsBehind count step = (k : ℕ) → Contains step.arguments k → count ≤ k

-- a game over bits is the design's: its valid states, its turns and its stutter are, at each valid state each of its
-- steps is a move, each enabled process has a step, and each allowed move of the driver has one for some arguments
pub record IsGameOf (d : DesignTree) (c : Coding) (g : GameFunctions) : Type 0 where
  pub valid : (v : Assignment) → (g.valid v ≡ true) ↔ IsState d (c.state_of v)
  pub turn : (v : Assignment) → IsState d (c.state_of v) → g.turn v ≡ is_driver_turn d (c.state_of v)
  pub stutter : (v : Assignment) → IsState d (c.state_of v) →
      c.state_of (after g.stutter v) ≡ record (c.state_of v) { last = 0 }
  pub environment : (v : Assignment) → IsState d (c.state_of v) → All (IsEnvironmentMove d c v) g.environment
  pub processes : (v : Assignment) (p : ℕ) → IsState d (c.state_of v) → IsEnabled d (c.state_of v) p →
      Any (λ (step : StepFunctions). IsMoveAt d c step (Process p) v) g.environment
  pub driver : (v : Assignment) → IsState d (c.state_of v) → All (IsDriverMove d c v) g.driver
  pub moves : (v : Assignment) (move : Move) → IsState d (c.state_of v) → IsAllowed d (c.state_of v) move →
      Any (IsMoveForSome d c move v) g.driver
  pub arguments : All (HasArgumentsBehind c.count) g.driver
