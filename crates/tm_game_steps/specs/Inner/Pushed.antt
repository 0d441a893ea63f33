-- Steps as diagrams, put one behind the other.
use Rattle.std.specs.Prelude.{◌≡◌, ℕ, ◌<◌, Bool, List, ◌++◌, All, length, map, slice_index, slice_index_or}
use Rattle.tm_dd.specs.Table.{Table}
use Rattle.tm_flat.specs.Flat.{FlatTerms, StepTerms}
use Rattle.tm_game_bits.specs.declared.step.StepDiagrams.{StepDiagrams}
use Rattle.tm_game_bits.specs.Diagrams.{KnowsStep, step_of}
use Rattle.tm_game_bits.specs.Functions.{Function, StepFunctions}
use Rattle.tm_game_steps.specs.declared.places.Place.{Place}
use Rattle.tm_game_steps.specs.Setting.{Setting}
use Rattle.tm_game_steps.specs.Telling.{AreFrom, AreTasks, HasFrom, IsFrom, IsIdling, IsMovedBy, IsOfTask, TellsStep}

-- a step of known ids is what terms tell
pub record IsTelling (x : Setting) (s : Table) (test : List ℕ → Bool) (given : List ℕ) (terms : StepTerms)
    (step : StepDiagrams) : Type 0 where
  pub known : KnowsStep s step
  pub tells : TellsStep x test given terms (step_of s step)

-- a step of known ids is that of a process from a place
pub record MadeFrom (x : Setting) (f : FlatTerms) (s : Table) (place : Place) (step : StepDiagrams) : Type 0 where
  pub known : KnowsStep s step
  pub is : IsFrom x f place.magic place.process place.location (step_of s step)

-- a step of known ids is that of a controllable task
pub record MadeOfTask (x : Setting) (f : FlatTerms) (s : Table) (n : ℕ) (step : StepDiagrams) : Type 0 where
  pub known : KnowsStep s step
  pub is : IsOfTask x f n (step_of s step)

-- a step of known ids is the driver's idle one
pub record MadeIdle (x : Setting) (s : Table) (turn : Function) (step : StepDiagrams) : Type 0 where
  pub known : KnowsStep s step
  pub is : IsIdling x turn (step_of s step)

-- the steps of processes from the first places, where these are of one sort, stand behind older ones
pub record AreProcessesBelow (x : Setting) (f : FlatTerms) (magic : Bool) (places : List Place) (count : ℕ) (s : Table)
    (old new : List StepDiagrams) (movers : List ℕ) : Type 0 where
  pub pushed : List StepDiagrams
  pub are : new ≡ old ++ pushed
  pub known : All (KnowsStep s) pushed
  pub long : length movers ≡ length pushed
  pub each : (i : ℕ) (d : StepFunctions) → i < length pushed →
      IsMovedBy x f magic (slice_index movers i) (slice_index_or (map (step_of s) pushed) i d)
  pub all : (i : ℕ) (d : Place) → i < count → (slice_index_or places i d).magic ≡ magic →
      HasFrom x f magic (slice_index_or places i d).process (slice_index_or places i d).location
      (map (step_of s) pushed) movers

-- the steps of all processes from locations of one sort stand behind older ones
pub record AreProcesses (x : Setting) (f : FlatTerms) (magic : Bool) (s : Table) (old new : List StepDiagrams)
    (movers : List ℕ) : Type 0 where
  pub pushed : List StepDiagrams
  pub are : new ≡ old ++ pushed
  pub known : All (KnowsStep s) pushed
  pub from : AreFrom x f magic (map (step_of s) pushed) movers

-- the steps of the first controllable tasks stand behind older ones
pub record AreTaskSteps (x : Setting) (f : FlatTerms) (s : Table) (old new : List StepDiagrams) (count : ℕ) :
    Type 0 where
  pub pushed : List StepDiagrams
  pub are : new ≡ old ++ pushed
  pub known : All (KnowsStep s) pushed
  pub from : AreTasks x f count (map (step_of s) pushed)
