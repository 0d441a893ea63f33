-- How two memories of terms become one.
use Rattle.std.specs.Prelude.{◌≡◌, ℕ, Some, All, List, length, slice_get, slice_index}
use Rattle.tm_base.specs.Arithmetic.{choice}
use Rattle.tm_scope.specs.Cells.{CellTables}
use Rattle.tm_term.specs.declared.term.TermId.{TermId}
use Rattle.tm_term.specs.Table.{Table, IsSound}
use Rattle.tm_term.specs.Value.{AreInputs, value_of, Extends}
use Rattle.tm_flat.specs.Steps.{IsTerm}
use Rattle.tm_design.specs.declared.step_cells.StepCell.{StepCell}
use Rattle.tm_flat_exprs.specs.declared.memory.versions.Version.{Version}
use Rattle.tm_flat_exprs.specs.Kept.{HasSlot, IsKeptVersion}
use Rattle.tm_flat_exprs.specs.Versions.{step_value, version_values}

-- a term is one where a truth holds, and else another one; of two that are one it is that
pub record Chooses (n : Table) (guard a b id : TermId) : Type 0 where
  pub width : ℕ
  pub first : IsTerm n width a
  pub second : IsTerm n width b
  pub term : IsTerm n width id
  pub value : (u : Table) → Extends n u → (v : List ℕ) → AreInputs u v →
      value_of u v id ≡ choice (value_of u v guard) (value_of u v a) (value_of u v b)
  pub same : a ≡ b → id ≡ a

-- it was made
pub record MakesChoice (t n : Table) (guard a b id : TermId) : Type 0 where
  pub grown : Extends t n
  pub sound : IsSound n
  pub chosen : Chooses n guard a b id

-- so many were made of two lists
pub record MergesValues (t n : Table) (guard : TermId) (first second : List TermId) (count : ℕ) (ids : List TermId) :
    Type 0 where
  pub grown : Extends t n
  pub sound : IsSound n
  pub long : length ids ≡ count
  pub each : (i : ℕ) (a b id : TermId) → slice_get first i ≡ Some a → slice_get second i ≡ Some b →
      slice_get ids i ≡ Some id → Chooses n guard a b id

-- of versions that were made of those of two others: their terms are those of these, or truths
pub record HasTerms (guard : TermId) (first second new : List Version) : Type 0 where
  pub kept : (x : CellTables) (t : Table) → IsTerm t 1 guard → All (IsKeptVersion x t) first →
      All (IsKeptVersion x t) second → All (IsKeptVersion x t) new
  pub slots : (x : CellTables) → All (HasSlot x) first → All (HasSlot x) second → All (HasSlot x) new

-- versions were put behind others: the last ones of both are among them, the second one at this number
pub record Appends (guard : TermId) (old others new : List Version) (number : ℕ) : Type 0 where
  pub terms : HasTerms guard old others new
  pub own : (u : Table) (v : List ℕ) (cell : StepCell) →
      slice_index (version_values u v cell new) (length old) ≡ step_value u v old cell
  pub other : (u : Table) (v : List ℕ) (cell : StepCell) →
      slice_index (version_values u v cell new) number ≡ step_value u v others cell

-- versions were made of two lists: the last values are those of the first where a truth holds, and else the second's
pub record MergesSteps (guard : TermId) (first second new : List Version) : Type 0 where
  pub terms : HasTerms guard first second new
  pub value : (u : Table) (v : List ℕ) (cell : StepCell) →
      step_value u v new cell ≡ choice (value_of u v guard) (step_value u v first cell) (step_value u v second cell)
