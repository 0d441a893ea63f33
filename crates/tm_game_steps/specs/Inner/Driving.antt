-- The steps of the driver, one behind the other.
use Rattle.std.specs.Prelude.{◌≡◌, ℕ, true, List, ◌∷◌, ◌++◌, All, length, map}
use Rattle.tm_dd.specs.Table.{Table}
use Rattle.tm_flat.specs.Flat.{FlatTerms}
use Rattle.tm_game_bits.specs.declared.step.StepDiagrams.{StepDiagrams}
use Rattle.tm_game_bits.specs.Diagrams.{KnowsStep, step_of}
use Rattle.tm_game_bits.specs.Functions.{Function, StepFunctions}
use Rattle.tm_game_steps.specs.Setting.{Setting}
use Rattle.tm_game_steps.specs.Telling.{AreFrom, AreTasks, IsIdling}

-- steps of known ids are the idle one, those of the tasks and those that leave magic blocks
pub record AreDriverSteps (x : Setting) (f : FlatTerms) (turn : Function) (s : Table) (list : List StepDiagrams)
    (movers : List ℕ) : Type 0 where
  pub known : All (KnowsStep s) list
  pub idle : StepFunctions
  pub tasks : List StepFunctions
  pub leaves : List StepFunctions
  pub are : map (step_of s) list ≡ idle ∷ tasks ++ leaves
  pub idles : IsIdling x turn idle
  pub calls : AreTasks x f (length f.tasks) tasks
  pub leaving : AreFrom x f true leaves movers
