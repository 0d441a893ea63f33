-- A game over bits: what its steps do, as functions of the values of all levels.
use Rattle.std.specs.Prelude.{ℕ, ◌==◌, Bool, ◌&&◌, ◌||◌, not, List}
use Rattle.std.specs.Map.{lookup}
use Rattle.std.specs.Option.{option_map_or}

-- a value for each level: those of the state, and beside them those of arguments and choices
abbrev pub Assignment : Type 0
Assignment = ℕ → Bool

-- a function of the values of the levels; a set of states is one that reads the state alone
abbrev pub Function : Type 0
Function = Assignment → Bool

-- a step: where it has an outcome, whether that is an error, the levels of the state that it changes with what they
-- become, and the levels of its choices and of its arguments
pub record StepFunctions : Type 0 where
  pub legal : Function
  pub error : Function
  pub next : List (ℕ × Function)
  pub choices : List ℕ
  pub arguments : List ℕ

-- a game: its valid states, where the driver can be picked, what a stutter changes, the steps of the environment and
-- those of the driver
pub record GameFunctions : Type 0 where
  pub valid : Function
  pub turn : Function
  pub stutter : List (ℕ × Function)
  pub environment : List StepFunctions
  pub driver : List StepFunctions

-- the values after a change: a level with a function gets its value, every other one keeps its own
abbrev pub after : List (ℕ × Function) → Assignment → Assignment
after next v level = option_map_or (λ f. f v) (lookup (λ l. l == level) next) (v level)

-- what a set leaves out
abbrev pub outside : Function → Function
outside set v = not (set v)

-- whether a step errs or leads into a set, for the choices that are given
abbrev pub leading_at : StepFunctions → Function → Function
leading_at step into w = step.legal w && (step.error w || into (after step.next w))
