-- The memory of a run as a machine keeps it, by the numbers of its cells.
use Rattle.std.specs.Prelude.{◌≡◌, ℕ, Some, List, unwrap_or}
use Rattle.std.specs.List.{zip, fold}
use Rattle.std.specs.Map.{lookup}
use Rattle.tm_syntax.specs.Design.Cells.{Cell}
use Rattle.tm_scope.specs.Cells.{CellTables, cell_at}
use Rattle.tm_scope.specs.declared.cells.site_body.CellNumber.TheVariants.{Step}
use Rattle.tm_sem.specs.Value.{Memory, put, read}
use Rattle.tm_design.specs.StepCells.{same_cell}
use Rattle.tm_design.specs.declared.step_cells.StepCell.{StepCell}

-- what a machine keeps: the values of the state variables, and of parameters and locals that live for one step
pub record Kept : Type 0 where
  pub values : List ℕ
  pub step : List (StepCell × ℕ)

-- the value that is kept of a parameter or local; what got none has the value 0
abbrev pub kept_value : List (StepCell × ℕ) → StepCell → ℕ
kept_value entries cell = unwrap_or (lookup (same_cell cell) entries) 0

-- what is kept is what a memory holds: each state variable, and each parameter and local that lives for one step
pub record Keeps (x : CellTables) (k : Kept) (m : Memory) : Type 0 where
  pub values : m.values ≡ k.values
  pub step : (cell : StepCell) (c : Cell) → cell_at x cell.at (Step cell.slot) ≡ Some c →
      read m c ≡ kept_value k.step cell

-- the memory in which cells have got values, one after the other
abbrev pub put_all : Memory → List Cell → List ℕ → Memory
put_all m cells values = fold (λ so_far p. put so_far p.0 p.1) m (zip cells values)
