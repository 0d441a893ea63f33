-- Runs that have ended, and the step that is made of them.
use Rattle.std.specs.Prelude.{◌≡◌, ◌<◌, ◌^◌, ◌==◌, ◌||◌, ℕ, Option, None, Some, List, IfSome, length, not}
use Rattle.tm_syntax.specs.Design.{DesignTree}
use Rattle.tm_syntax.specs.Design.Locations.{end_number}
use Rattle.tm_syntax.specs.Design.Sizes.{bits_of_number}
use Rattle.tm_scope.specs.Cells.{CellTables, HasCells}
use Rattle.tm_term.specs.declared.term.TermId.{TermId}
use Rattle.tm_term.specs.Table.{Table, IsSound}
use Rattle.tm_term.specs.Value.{AreInputs, value_of, Extends}
use Rattle.tm_flat.specs.declared.flat.FlatStep.{FlatStep}
use Rattle.tm_flat.specs.Inputs.{AreSmall, first_choice, input_widths}
use Rattle.tm_flat.specs.Steps.{IsTerm}
use Rattle.tm_flat_exprs.specs.Made.{Makes, truth_at, value_at}
use Rattle.tm_flat_stmts.specs.Flows.{AreEnds, EndTerms, FlowTerms, Stops}
use Rattle.tm_flat_moves.specs.declared.arrivals.Arrived.{Arrived}
use Rattle.tm_flat_moves.specs.declared.finish.Verdict.{Verdict}
use Rattle.tm_flat_moves.specs.Begun.{AreInputTerms}
use Rattle.tm_flat_moves.specs.Next.{MakesNext}

-- runs of a design have ended so, over terms of its inputs
pub record IsEnding (x : CellTables) (t : Table) (d : DesignTree) (ends : EndTerms) : Type 0 where
  pub cells : HasCells x d
  pub sound : IsSound t
  pub inputs : t.inputs ≡ input_widths d
  pub few : first_choice d < 2 ^ 32
  pub small : AreSmall d
  pub known : AreEnds x t ends

-- the location of the mover is a number of this width
abbrev pub IsMoverOf : DesignTree → ℕ → Option ℕ → Type 0
IsMoverOf d width mover =
    IfSome mover (λ p. (p < length d.processes) × (width ≡ bits_of_number (end_number d p)))

-- the runs that have come to the end of their work are among those that have stopped at the location of a number
abbrev pub EndsBehind : Table → Table → ℕ → Option FlowTerms → EndTerms → EndTerms → Type 0
EndsBehind t n number None before after = (n ≡ t) × (after ≡ before)
EndsBehind t n number (Some f) before after = Stops t n number f before after

-- the truths of a step were made, whose runs arrive where a truth holds and fail where another one does
pub record MakesVerdict (t n : Table) (arrives : TermId) (failed : Option TermId) (told : Verdict) : Type 0 where
  pub grown : Extends t n
  pub sound : IsSound n
  pub legal : IsTerm n 1 told.legal
  pub error : IsTerm n 1 told.error
  pub is_legal : (u : Table) → Extends n u → (v : List ℕ) → AreInputs u v →
      (value_of u v told.legal == 0) ≡ not (truth_at u v (Some arrives) || truth_at u v failed)
  pub is_error : (u : Table) → Extends n u → (v : List ℕ) → AreInputs u v →
      (value_of u v told.error == 0) ≡ not (truth_at u v failed)

-- the terms of a step were made whose runs arrive nowhere, where there are so many numbers of a state
pub record MakesNowhere (t n : Table) (count : ℕ) (failed : Option TermId) (step : FlatStep) : Type 0 where
  pub mid : Table
  pub error : Makes t mid 1 step.error (λ u v. value_at u v failed)
  pub legal : step.legal ≡ step.error
  pub next : AreInputTerms mid n 0 count step.next.items

-- the terms of a step were made whose runs arrive somewhere
pub record MakesSomewhere (t n : Table) (d : DesignTree) (failed : Option TermId) (mover : Option ℕ) (last : ℕ)
    (a : Arrived) (step : FlatStep) : Type 0 where
  pub mid : Table
  pub told : MakesVerdict t mid a.flow.guard failed (record { legal = step.legal; error = step.error })
  pub next : MakesNext mid n d a.flow.memory.values mover a.place last step.next.items

-- the terms of a step were made whose runs have arrived, if some have
abbrev pub MakesArrived : Table → Table → DesignTree → Option TermId → Option ℕ → ℕ → Option Arrived → FlatStep → Type 0
MakesArrived t n d failed mover last None step = MakesNowhere t n (first_choice d) failed step
MakesArrived t n d failed mover last (Some a) step = MakesSomewhere t n d failed mover last a step
