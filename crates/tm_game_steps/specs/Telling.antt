-- Steps of a game over bits that terms tell: what they do at all values of the levels.
use Rattle.std.specs.Prelude.{◌≡◌, ◌↔◌, ℕ, ◌+◌, ◌-◌, ◌<◌, Bool, true, false, Some, List, [], ◌∷◌, ◌++◌, All, length, map, slice_get, slice_index, slice_index_or, take}
use Rattle.tm_base.specs.Arithmetic.{bit}
use Rattle.tm_blast.specs.Bits.{input_values}
use Rattle.tm_flat.specs.Flat.{FlatTerms, StepTerms}
use Rattle.tm_flat.specs.IsFlat.{step_from}
use Rattle.tm_flat.specs.Steps.{IsTerm}
use Rattle.tm_game_bits.specs.Choices.{ListsChoices}
use Rattle.tm_game_bits.specs.Functions.{Assignment, Function, StepFunctions, GameFunctions, after}
use Rattle.tm_game_steps.specs.Places.{flag_at}
use Rattle.tm_game_steps.specs.Setting.{AreNumbers, Setting, arguments_of, choices_of, has_value, values_at}
use Rattle.tm_term.specs.Value.{value_of}

-- ---- guarded updates
-- the terms of a step: two truths, and one term for each number of a state
pub record AreStepTerms (x : Setting) (terms : StepTerms) : Type 0 where
  pub legal : IsTerm x.terms 1 terms.legal
  pub error : IsTerm x.terms 1 terms.error
  pub next : AreNumbers x terms.next

-- a process has a step from a location
pub record HasStep (x : Setting) (f : FlatTerms) (p k : ℕ) : Type 0 where
  pub terms : StepTerms
  pub there : step_from f p k ≡ Some terms
  pub are : AreStepTerms x terms

-- there is a step from each location of the table of magic blocks, and all ids are those of terms
pub record HasTerms (x : Setting) (f : FlatTerms) : Type 0 where
  pub processes : (p k : ℕ) (magic : Bool) → flag_at f.magic p k ≡ Some magic → HasStep x f p k
  pub tasks : All (AreStepTerms x) f.tasks
  pub goals : All (IsTerm x.terms 1) f.goals
  pub fairs : All (IsTerm x.terms 1) f.fairs
  pub initial : IsTerm x.terms 1 f.initial
  pub valid : IsTerm x.terms 1 f.valid

-- ---- steps
-- where a test holds, a step over bits is what terms tell; elsewhere it has no outcome
pub record TellsStep (x : Setting) (test : List ℕ → Bool) (given : List ℕ) (terms : StepTerms) (step : StepFunctions) :
    Type 0 where
  pub guarded : (v : Assignment) → step.legal v ≡ true → test (values_at x v) ≡ true
  pub legal : (v : Assignment) → test (values_at x v) ≡ true →
      value_of x.terms (values_at x v) terms.legal ≡ bit (step.legal v)
  pub error : (v : Assignment) → value_of x.terms (values_at x v) terms.error ≡ bit (step.error v)
  pub next : (v : Assignment) → input_values (take (length terms.next) x.levels) (after step.next v)
      ≡ map (value_of x.terms (values_at x v)) terms.next
  pub choices : ListsChoices (choices_of x) step.choices (λ v. value_of x.terms (values_at x v)) terms
  pub arguments : step.arguments ≡ given

-- a change that leaves the numbers of a state as they are, but for the last one
abbrev pub PassesTo : Setting → ℕ → List (ℕ × Function) → Type 0
PassesTo x last next =
    (v : Assignment) → input_values (take x.numbers x.levels) (after next v)
    ≡ take (x.numbers - 1) (values_at x v) ++ last ∷ []

-- a step is that of a process from a location, which is a magic block or not
pub record IsFrom (x : Setting) (f : FlatTerms) (magic : Bool) (p k : ℕ) (step : StepFunctions) : Type 0 where
  pub terms : StepTerms
  pub there : flag_at f.magic p k ≡ Some magic
  pub tells : step_from f p k ≡ Some terms
  pub is : TellsStep x (has_value (x.first + p) k) [] terms step

-- a step is that of a controllable task
pub record IsOfTask (x : Setting) (f : FlatTerms) (n : ℕ) (step : StepFunctions) : Type 0 where
  pub terms : StepTerms
  pub tells : slice_get f.tasks n ≡ Some terms
  pub is : TellsStep x (λ values. true) (arguments_of x) terms step

-- a step is the driver's idle one, which it can take at its turn
pub record IsIdling (x : Setting) (turn : Function) (step : StepFunctions) : Type 0 where
  pub legal : (v : Assignment) → step.legal v ≡ turn v
  pub error : (v : Assignment) → step.error v ≡ false
  pub next : PassesTo x 1 step.next
  pub choices : step.choices ≡ []
  pub arguments : step.arguments ≡ []

-- ---- lists of steps
-- the process that takes a step, from some location
abbrev pub IsMovedBy : Setting → FlatTerms → Bool → ℕ → StepFunctions → Type 0
IsMovedBy x f magic p step = (k : ℕ) × IsFrom x f magic p k step

-- a step of a process from a location is in a list, with its process
pub record HasFrom (x : Setting) (f : FlatTerms) (magic : Bool) (p k : ℕ) (steps : List StepFunctions)
    (movers : List ℕ) : Type 0 where
  pub index : ℕ
  pub below : index < length steps
  pub mover : slice_index movers index ≡ p
  pub is : (d : StepFunctions) → IsFrom x f magic p k (slice_index_or steps index d)

-- steps of processes from locations of one sort, with the processes that take them, and each of them at least once
pub record AreFrom (x : Setting) (f : FlatTerms) (magic : Bool) (steps : List StepFunctions) (movers : List ℕ) :
    Type 0 where
  pub long : length movers ≡ length steps
  pub each : (i : ℕ) (d : StepFunctions) → i < length steps →
      IsMovedBy x f magic (slice_index movers i) (slice_index_or steps i d)
  pub all : (p k : ℕ) → flag_at f.magic p k ≡ Some magic → HasFrom x f magic p k steps movers

-- the steps of the first controllable tasks, in order
pub record AreTasks (x : Setting) (f : FlatTerms) (count : ℕ) (steps : List StepFunctions) : Type 0 where
  pub long : length steps ≡ count
  pub each : (n : ℕ) (d : StepFunctions) → n < count → IsOfTask x f n (slice_index_or steps n d)

-- ---- games
-- a game over bits that terms tell: the driver's steps are the idle one, those of the tasks and those that leave magic
-- blocks, with the processes that these move
pub record TellsGame (x : Setting) (f : FlatTerms) (g : GameFunctions) (movers : List ℕ) : Type 0 where
  pub valid : (v : Assignment) → value_of x.terms (values_at x v) f.valid ≡ bit (g.valid v)
  pub turn : (v : Assignment) → (g.turn v ≡ true)
      ↔ ((p k : ℕ) × (flag_at f.magic p k ≡ Some true) × (has_value (x.first + p) k (values_at x v) ≡ true))
  pub stutter : PassesTo x 0 g.stutter
  pub others : List ℕ
  pub environment : AreFrom x f false g.environment others
  pub idle : StepFunctions
  pub tasks : List StepFunctions
  pub leaves : List StepFunctions
  pub driver : g.driver ≡ idle ∷ tasks ++ leaves
  pub idles : IsIdling x g.turn idle
  pub calls : AreTasks x f (length f.tasks) tasks
  pub leaving : AreFrom x f true leaves movers
