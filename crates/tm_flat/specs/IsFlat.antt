-- What `flatten` gives of a design.
use Rattle.std.specs.Prelude.{◌≡◌, ℕ, ◌+◌, ◌≤◌, ◌↔◌, All, Option, Some, List, map, length, slice_get}
use Rattle.std.specs.Option.{option_and_then}
use Rattle.std.specs.List.{AllZip, range_with_len}
use Rattle.tm_base.specs.Arithmetic.{bit}
use Rattle.tm_term.specs.declared.term.TermId.{TermId}
use Rattle.tm_term.specs.Table.{Table}
use Rattle.tm_term.specs.Value.{AreInputs, value_of}
use Rattle.tm_syntax.specs.Design.{DesignTree}
use Rattle.tm_syntax.specs.Design.Cells.{Called}
use Rattle.tm_syntax.specs.Design.Locations.{end_number, is_magic_at}
use Rattle.tm_sem.specs.State.{StateData}
use Rattle.tm_sem.specs.Step.{IsState, IsInitial, task_of}
use Rattle.tm_sem.specs.Play.{goal_holds}
use Rattle.tm_sem.specs.Fairness.{conditions, IsFair}
use Rattle.tm_flat.specs.Flat.{StepTerms, FlatTerms}
use Rattle.tm_flat.specs.Inputs.{room, AreBits, input_widths, input_values, parameter_widths, state_from}
use Rattle.tm_flat.specs.Steps.{IsTerm, IsProcessStep, IsTaskStep}

-- the numbers of the processes
abbrev pub process_numbers : DesignTree → List ℕ
process_numbers d = range_with_len 0 (length d.processes)

-- the numbers of the locations of a process, its start and its end included
abbrev pub location_numbers : DesignTree → ℕ → List ℕ
location_numbers d p = range_with_len 0 (end_number d p + 1)

-- a term that is 1 exactly where the goal of this number holds
pub record IsGoalTerm (t : Table) (d : DesignTree) (g : ℕ) (id : TermId) : Type 0 where
  pub term : IsTerm t 1 id
  pub holds : (s : StateData) (choices arguments : List ℕ) → IsState d s → AreBits choices → AreBits arguments →
      value_of t (input_values s choices arguments) id ≡ bit (goal_holds d s g)

-- a term that is 1 for all bits of choices exactly where the fairness condition of this number holds
pub record IsFairTerm (t : Table) (d : DesignTree) (i : ℕ) (id : TermId) : Type 0 where
  pub term : IsTerm t 1 id
  pub holds : (s : StateData) (arguments : List ℕ) → IsState d s → AreBits arguments →
      IsFair d s i ↔ ((choices : List ℕ) → AreBits choices → value_of t (input_values s choices arguments) id ≡ 1)

-- a term that is 1 exactly where the inputs tell such a state
pub record IsStateTerm (t : Table) (d : DesignTree) (IsSuch : StateData → Type 0) (id : TermId) : Type 0 where
  pub term : IsTerm t 1 id
  pub holds : (values : List ℕ) → AreInputs t values → (value_of t values id ≡ 1) ↔ IsSuch (state_from d values)

-- the widths of the parameters of the controllable task of this number
abbrev pub AreWidths : DesignTree → ℕ → List ℕ → Type 0
AreWidths d n widths = (callee : Called) → task_of d n ≡ Some callee → widths ≡ parameter_widths d callee.params

-- a design as guarded updates over the inputs of its terms
pub record IsFlat (t : Table) (d : DesignTree) (f : FlatTerms) : Type 0 where
  pub inputs : t.inputs ≡ input_widths d
  pub widths : f.widths ≡ input_widths d
  pub magic : f.magic ≡ map (λ p. map (is_magic_at d p) (location_numbers d p)) (process_numbers d)
  pub processes : AllZip (λ p steps. AllZip (IsProcessStep t d p) (location_numbers d p) steps) (process_numbers d)
      f.processes
  pub tasks : AllZip (IsTaskStep t d) (range_with_len 0 (length d.tasks)) f.tasks
  pub parameters : AllZip (AreWidths d) (range_with_len 0 (length d.tasks)) f.parameters
  pub narrow : All (λ widths. All (λ w. w ≤ room) widths) f.parameters
  pub goals : AllZip (IsGoalTerm t d) (range_with_len 0 (length d.goals)) f.goals
  pub fairs : AllZip (IsFairTerm t d) (range_with_len 0 (length (conditions d))) f.fairs
  pub initial : IsStateTerm t d (IsInitial d) f.initial
  pub valid : IsStateTerm t d (IsState d) f.valid

-- the step of a process from one of its locations
abbrev pub step_from : FlatTerms → ℕ → ℕ → Option StepTerms
step_from f p k = option_and_then (λ steps. slice_get steps k) (slice_get f.processes p)
