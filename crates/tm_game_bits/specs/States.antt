-- Games whose steps and sets read the state.
use Rattle.std.specs.Prelude.{◌≡◌, ℕ, ◌<◌, List, [], All, Contains}
use Rattle.tm_game_bits.specs.Functions.{Assignment, Function, StepFunctions, GameFunctions}

-- two assignments are of one state: the levels of a state are the first ones
abbrev pub AreOneState : ℕ → Assignment → Assignment → Type 0
AreOneState count v w = (k : ℕ) → k < count → v k ≡ w k

-- two assignments agree on these levels
abbrev pub AgreeOn : List ℕ → Assignment → Assignment → Type 0
AgreeOn levels v w = (k : ℕ) → Contains levels k → v k ≡ w k

-- a function reads the state alone
abbrev pub ReadsState : ℕ → Function → Type 0
ReadsState count f = (v w : Assignment) → AreOneState count v w → f v ≡ f w

-- a function reads the state, and the choices and the arguments of a step alone
abbrev pub ReadsStep : ℕ → StepFunctions → Function → Type 0
ReadsStep count step f =
    (v w : Assignment) → AreOneState count v w → AgreeOn step.choices v w → AgreeOn step.arguments v w → f v ≡ f w

-- all functions of a step read these alone
pub record IsStepOver (count : ℕ) (step : StepFunctions) : Type 0 where
  pub legal : ReadsStep count step step.legal
  pub error : ReadsStep count step step.error
  pub next : All (λ (p : ℕ × Function). ReadsStep count step p.1) step.next

-- a game is one over states: where its driver can be picked and its valid states are told by the state, its steps read
-- no more than they may, and those of the environment have no arguments
pub record IsGameOver (count : ℕ) (g : GameFunctions) : Type 0 where
  pub valid : ReadsState count g.valid
  pub turn : ReadsState count g.turn
  pub stutter : All (λ (p : ℕ × Function). ReadsState count p.1) g.stutter
  pub environment : All (IsStepOver count) g.environment
  pub no_arguments : All (λ (step : StepFunctions). step.arguments ≡ []) g.environment
  pub driver : All (IsStepOver count) g.driver
