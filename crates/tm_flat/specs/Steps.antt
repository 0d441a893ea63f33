-- What the terms of a step tell: over all bits of choices exactly the outcomes that the step has over all lists of
-- choices.
use Rattle.std.specs.Prelude.{◌≡◌, ◌≢◌, ℕ, ◌+◌, ◌<◌, ◌==◌, Bool, false, ◌||◌, Option, None, Some, List, map, length, slice_get, slice_index, if◌then◌else◌, []}
use Rattle.std.specs.List.{AllZip, list_any}
use Rattle.tm_term.specs.declared.term.TermId.{TermId}
use Rattle.tm_term.specs.declared.term.Term.TheVariants.{Input}
use Rattle.tm_term.specs.Table.{Table, IsKnown, term_of, width_of}
use Rattle.tm_term.specs.Value.{value_of}
use Rattle.tm_syntax.specs.Design.{DesignTree}
use Rattle.tm_syntax.specs.Design.Cells.{Called}
use Rattle.tm_syntax.specs.Design.Locations.{rest, is_magic_at}
use Rattle.tm_syntax.specs.Design.Work.{body_items}
use Rattle.tm_sem.specs.declared.state.Move.{Move}
use Rattle.tm_sem.specs.declared.state.Move.TheVariants.{Process, Leave, Call}
use Rattle.tm_sem.specs.declared.state.Outcome.{Outcome}
use Rattle.tm_sem.specs.declared.state.Outcome.TheVariants.{Next, Error, NoOutcome}
use Rattle.tm_sem.specs.State.{StateData}
use Rattle.tm_sem.specs.StateBits.{state_widths}
use Rattle.tm_sem.specs.Step.{IsState, task_of, Step}
use Rattle.tm_flat.specs.Flat.{StepTerms}
use Rattle.tm_flat.specs.Inputs.{AreBits, input_values, arguments_in, state_from}
use Rattle.tm_flat.specs.Writes.{is_variable, items_write}

-- a term of this width
abbrev pub IsTerm : Table → ℕ → TermId → Type 0
IsTerm t width id = IsKnown t id × (width_of t id ≡ width)

-- the terms of a step: two truths, and one term for each number of a state
pub record AreTerms (t : Table) (d : DesignTree) (step : StepTerms) : Type 0 where
  pub legal : IsTerm t 1 step.legal
  pub error : IsTerm t 1 step.error
  pub next : AllZip (IsTerm t) (state_widths d) step.next

-- the outcome that the terms of a step tell; the next numbers count only where it is legal and no error
abbrev pub told_outcome : Table → DesignTree → List ℕ → StepTerms → Outcome
told_outcome t d values step =
    if value_of t values step.legal == 0
    then NoOutcome
    else (if value_of t values step.error == 0
    then Next (state_from d (map (value_of t values) step.next))
    else Error)

-- over all bits of choices the terms of a step tell exactly the outcomes that a move has at a state over all lists of
-- choices
pub record Tells (t : Table) (d : DesignTree) (step : StepTerms) (s : StateData) (move : Move) (arguments : List ℕ) :
    Type 0 where
  pub outcomes : (bits : List ℕ) → AreBits bits →
      told_outcome t d (input_values s bits arguments) step ≢ NoOutcome →
      (choices : List ℕ) × Step d s move choices (told_outcome t d (input_values s bits arguments) step)
  pub all : (choices : List ℕ) (o : Outcome) → o ≢ NoOutcome → Step d s move choices o →
      (bits : List ℕ) × AreBits bits × (told_outcome t d (input_values s bits arguments) step ≡ o)

-- the input of this number
abbrev pub IsInput : Table → ℕ → TermId → Type 0
IsInput t i id = term_of t id ≡ Some (Input i)

-- a number that a step leaves alone is its input: a variable that it does not assign, and the location of each process
-- but the one that moves
pub record LeavesInputs (t : Table) (d : DesignTree) (writes : ℕ → Bool) (mover : Option ℕ) (step : StepTerms) :
    Type 0 where
  pub variables : (v : ℕ) (id : TermId) → v < length d.vars → writes v ≡ false → slice_get step.next v ≡ Some id →
      IsInput t v id
  pub places : (p : ℕ) (id : TermId) → p < length d.processes → mover ≢ Some p →
      slice_get step.next (length d.vars + p) ≡ Some id → IsInput t (length d.vars + p) id

-- the move that begins at a location of a process
abbrev pub move_from : DesignTree → ℕ → ℕ → Move
move_from d p k = if is_magic_at d p k then Leave p else Process p

-- the step of a process from a location, at the states at which it stands there
pub record IsProcessStep (t : Table) (d : DesignTree) (p k : ℕ) (step : StepTerms) : Type 0 where
  pub terms : AreTerms t d step
  pub tells : (s : StateData) (arguments : List ℕ) → IsState d s → slice_index s.places p ≡ k → AreBits arguments →
      Tells t d step s (move_from d p k) arguments
  pub leaves : LeavesInputs t d (λ v. items_write d v (rest d p k) 0) (Some p) step

-- the step of a controllable task, at all states and for all arguments; where the driver cannot be picked or an
-- argument is out of range the move has no outcome
pub record IsTaskStep (t : Table) (d : DesignTree) (n : ℕ) (step : StepTerms) : Type 0 where
  pub terms : AreTerms t d step
  pub tells : (s : StateData) (callee : Called) (arguments : List ℕ) → IsState d s → task_of d n ≡ Some callee →
      AreBits arguments → Tells t d step s (Call n (arguments_in d callee.params arguments)) arguments
  pub leaves : (callee : Called) → task_of d n ≡ Some callee →
      LeavesInputs t d
      (λ v. list_any (is_variable v) callee.params || items_write d v (body_items callee.scope [] callee.body) 0)
      None step
