-- Two memories of terms as one: each cell has its term of the one where a truth holds, and else that of the other one.
use Rattle.std.specs.Prelude.{◌≡◌, ℕ, ◌==◌, Some, All, List, length, slice_get, slice_set, if◌then◌else◌}
use Rattle.tm_syntax.specs.Design.Cells.{Cell}
use Rattle.tm_scope.specs.Cells.{CellTables, cell_at}
use Rattle.tm_scope.specs.declared.cells.site_body.SiteBody.{SiteBody}
use Rattle.tm_scope.specs.declared.cells.site_body.CellNumber.{CellNumber}
use Rattle.tm_scope.specs.declared.cells.site_body.CellNumber.TheVariants.{State, Step}
use Rattle.tm_term.specs.declared.term.TermId.{TermId}
use Rattle.tm_term.specs.Table.{Table, IsSound}
use Rattle.tm_term.specs.Value.{AreInputs, value_of, Extends}
use Rattle.tm_sem.specs.Value.{Memory, read}
use Rattle.tm_flat.specs.Steps.{IsTerm}
use Rattle.tm_flat_exprs.specs.Kept.{KeptTerms, Keeps, AreKept, HasSlot}

-- a memory of terms: one for each state variable, and others for parameters and locals of the text alone
pub record IsMemory (x : CellTables) (t : Table) (k : KeptTerms) : Type 0 where
  pub count : length k.values ≡ length x.vars
  pub slots : All (HasSlot x) k.step
  pub kept : AreKept x t k

-- the terms of the state variables after one was put into a cell
abbrev pub values_after : List TermId → CellNumber → TermId → List TermId
values_after values (State number) id = slice_set values number id
values_after values (Step _) id = values

-- a term was made that has the value of a cell
pub record Reads (t n : Table) (k : KeptTerms) (at : SiteBody) (cell : CellNumber) (width : ℕ) (id : TermId) :
    Type 0 where
  pub grown : Extends t n
  pub sound : IsSound n
  pub term : IsTerm n width id
  pub value : (x : CellTables) (u : Table) (v : List ℕ) (m : Memory) (c : Cell) → Extends n u → AreInputs u v →
      Keeps x u v k m → cell_at x at cell ≡ Some c → read m c ≡ value_of u v id

-- two terms have one width
pub record AreOfWidth (t : Table) (a b : TermId) : Type 0 where
  pub width : ℕ
  pub first : IsTerm t width a
  pub second : IsTerm t width b

-- so have the terms of each state variable in two memories
pub record AreAlike (t : Table) (k l : KeptTerms) : Type 0 where
  pub count : length k.values ≡ length l.values
  pub values : (i : ℕ) (a b : TermId) → slice_get k.values i ≡ Some a → slice_get l.values i ≡ Some b →
      AreOfWidth t a b

-- one of two memories was made of both: it is the first where a truth holds, and else the second. A state variable of
-- which both have one term keeps it
pub record Merges (t n : Table) (guard : TermId) (k l merged : KeptTerms) : Type 0 where
  pub grown : Extends t n
  pub sound : IsSound n
  pub memory : (x : CellTables) → IsMemory x t k → IsMemory x t l → IsMemory x n merged
  pub keeps : (x : CellTables) (u : Table) (v : List ℕ) (m : Memory) → Extends n u → AreInputs u v →
      Keeps x u v (if value_of u v guard == 0 then l else k) m → Keeps x u v merged m
  pub same : (i : ℕ) (id : TermId) → slice_get k.values i ≡ Some id → slice_get l.values i ≡ Some id →
      slice_get merged.values i ≡ Some id
