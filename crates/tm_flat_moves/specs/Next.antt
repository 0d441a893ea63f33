-- The numbers of the state behind a step, as terms.
use Rattle.std.specs.Prelude.{◌≡◌, ◌+◌, ◌<◌, ℕ, Bool, false, Option, None, Some, List, [], ◌∷◌, ◌++◌, IfSome, drop, length, slice_get, slice_set, take, if◌then◌else◌}
use Rattle.std.specs.Option.{option_map_or}
use Rattle.tm_syntax.specs.Design.{DesignTree}
use Rattle.tm_syntax.specs.Design.Sizes.{bits_of_number}
use Rattle.tm_scope.specs.Cells.{CellTables}
use Rattle.tm_term.specs.declared.term.TermId.{TermId}
use Rattle.tm_term.specs.Table.{Table, IsSound}
use Rattle.tm_term.specs.Value.{AreInputs, value_of, Extends}
use Rattle.tm_sem.specs.declared.state.Outcome.{Outcome}
use Rattle.tm_sem.specs.declared.state.Outcome.TheVariants.{Next, Error, NoOutcome}
use Rattle.tm_sem.specs.Value.{Memory}
use Rattle.tm_flat.specs.Flat.{StepTerms}
use Rattle.tm_flat.specs.Steps.{AreTerms, IsInput, IsTerm, LeavesInputs, told_outcome}
use Rattle.tm_flat_stmts.specs.Flows.{EndTerms, StopsHave}
use Rattle.tm_flat_moves.specs.Arrived.{TellsArrival}

-- a list with one thing in the place of the mover's, if there is a mover
abbrev pub moved : {X : Type 0} → List X → Option ℕ → X → List X
moved xs mover x = option_map_or (λ p. slice_set xs p x) mover xs

-- the numbers of a state were made terms: these of its variables, the inputs of its locations but for that of the
-- mover, and who has moved
pub record MakesNext (t n : Table) (d : DesignTree) (values : List TermId) (mover : Option ℕ) (place : TermId)
    (last : ℕ) (next : List TermId) : Type 0 where
  pub grown : Extends t n
  pub sound : IsSound n
  pub places : List TermId
  pub count : length places ≡ length d.processes
  pub each : (p : ℕ) (id : TermId) → slice_get places p ≡ Some id → IsInput n (length d.vars + p) id
  pub number : TermId
  pub term : IsTerm n (bits_of_number (1 + length d.processes)) number
  pub value : (u : Table) → Extends n u → (v : List ℕ) → AreInputs u v → value_of u v number ≡ last
  pub is : next ≡ values ++ moved places mover place ++ number ∷ []

-- what a step leads to that arrives somewhere, from these values of the inputs
abbrev pub arrival_outcome : DesignTree → List ℕ → Option ℕ → ℕ → Option (ℕ × Memory) → Bool → Outcome
arrival_outcome d v mover last to fails =
    if fails
    then Error
    else option_map_or (λ (a : ℕ × Memory). Next (record {
      values = a.1.values;
      places = moved (take (length d.processes) (drop (length d.vars) v)) mover a.0;
      last = last;
    })) to NoOutcome

-- the terms of a step were made of how its runs have ended
pub record Finishes (x : CellTables) (t n : Table) (d : DesignTree) (ends : EndTerms) (mover : Option ℕ) (last : ℕ)
    (step : StepTerms) : Type 0 where
  pub terms : AreTerms n d step
  pub tells : (v : List ℕ) → AreInputs n v → (to : Option (ℕ × Memory)) (fails : Bool) →
      TellsArrival x n v to fails ends → told_outcome n d v step ≡ arrival_outcome d v mover last to fails
  pub leaves : (writes : ℕ → Bool) →
      ((i : ℕ) → i < length d.vars → writes i ≡ false → (id : TermId) × IsInput t i id × StopsHave i id ends) →
      LeavesInputs n d writes mover step
