-- The fairness conditions of actors: of the driver, and of processes.
use Rattle.std.specs.Prelude.{◌≡◌, ◌↔◌, ℕ, Bool, Option, None, Some, List, [], ◌∷◌, ◌++◌, map, slice_get, if◌then◌else◌}
use Rattle.std.specs.List.{AllZip, filter}
use Rattle.std.specs.Option.{option_map}
use Rattle.std.specs.declared.vec.Vec.{Vec}
use Rattle.std.specs.declared.alloc.Global.{Global}
use Rattle.tm_syntax.specs.Design.{DesignTree}
use Rattle.tm_syntax.specs.Design.Locations.{Thread, is_magic_at}
use Rattle.tm_term.specs.declared.term.TermId.{TermId}
use Rattle.tm_term.specs.Table.{Table, IsSound}
use Rattle.tm_term.specs.Value.{value_of, Extends}
use Rattle.tm_sem.specs.Fairness.{Condition, IsMet, is_owed, of_process}
use Rattle.tm_sem.specs.State.{StateData}
use Rattle.tm_sem.specs.Step.{IsState}
use Rattle.tm_flat.specs.declared.flat.FlatStep.{FlatStep}
use Rattle.tm_flat.specs.Flat.{StepTerms, step_terms}
use Rattle.tm_flat.specs.Inputs.{AreBits, input_values}
use Rattle.tm_flat.specs.IsFlat.{location_numbers, process_numbers}
use Rattle.tm_flat.specs.Steps.{IsProcessStep, IsTerm}

-- a truth at a location that is a magic block
abbrev pub magic_truth : DesignTree → ℕ → TermId → ℕ → Option TermId
magic_truth d p always k = if is_magic_at d p k then Some always else None

-- whether the step from a location has an outcome, where this is no magic block
abbrev pub legal_truth : DesignTree → ℕ → List StepTerms → ℕ → Option TermId
legal_truth d p steps k =
    if is_magic_at d p k then None else option_map (λ (s : StepTerms). s.legal) (slice_get steps k)

-- whether a process is lazy
abbrev pub lazy_of : Thread → Bool
lazy_of t = t.process.lazy

-- these are the steps of the processes of a design, from each of their locations
abbrev pub HaveSteps : Table → DesignTree → List (Vec FlatStep Global) → Type 0
HaveSteps t d processes =
    AllZip (λ p (steps : Vec FlatStep Global). AllZip (IsProcessStep t d p) (location_numbers d p)
    (map step_terms steps.items))
    (process_numbers d) processes

-- a term that is 1 for all bits of choices exactly where a fairness condition holds
pub record IsConditionTerm (t : Table) (d : DesignTree) (c : Condition) (id : TermId) : Type 0 where
  pub term : IsTerm t 1 id
  pub holds : (s : StateData) (arguments : List ℕ) → IsState d s → AreBits arguments →
      IsMet d s c ↔ ((choices : List ℕ) → AreBits choices → value_of t (input_values s choices arguments) id ≡ 1)

-- the term of the condition of a process was pushed, if the process is owed its turns
pub record PushesOwed (d : DesignTree) (p : ℕ) (t n : Table) (before after : List TermId) : Type 0 where
  pub grown : Extends t n
  pub sound : IsSound n
  pub part : List TermId
  pub is : after ≡ before ++ part
  pub each : (u : Table) → Extends n u →
      AllZip (IsConditionTerm u d) (map of_process (filter (is_owed d) (p ∷ []))) part
