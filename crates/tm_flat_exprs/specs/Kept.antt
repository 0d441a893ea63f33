-- The memory of a run as terms, by the numbers of its cells.
use Rattle.std.specs.Prelude.{◌≡◌, ℕ, ⊤, Option, Some, List, All, map, slice_get}
use Rattle.std.specs.Option.{option_map}
use Rattle.tm_syntax.specs.declared.design.Ty.{Ty}
use Rattle.tm_syntax.specs.declared.design.Var.{Var}
use Rattle.tm_syntax.specs.Tree.View.{spec_tree}
use Rattle.tm_syntax.specs.Scopes.Context.{Slot}
use Rattle.tm_syntax.specs.Design.Cells.{Cell}
use Rattle.tm_syntax.specs.Design.Sizes.{type_bits}
use Rattle.tm_scope.specs.Cells.{CellTables, slot_in, cell_at}
use Rattle.tm_scope.specs.declared.cells.site_body.SiteBody.{SiteBody}
use Rattle.tm_scope.specs.declared.cells.site_body.CellNumber.{CellNumber}
use Rattle.tm_scope.specs.declared.cells.site_body.CellNumber.TheVariants.{State, Step}
use Rattle.tm_term.specs.declared.term.TermId.{TermId}
use Rattle.tm_term.specs.Table.{Table}
use Rattle.tm_term.specs.Value.{value_of}
use Rattle.tm_sem.specs.Value.{Memory, read}
use Rattle.tm_flat.specs.Steps.{IsTerm}
use Rattle.tm_design.specs.declared.step_cells.StepCell.{StepCell}
use Rattle.tm_flat_exprs.specs.declared.memory.versions.Version.{Version}
use Rattle.tm_flat_exprs.specs.declared.memory.versions.Version.TheVariants.{Put, Choice}
use Rattle.tm_flat_exprs.specs.Versions.{step_value}

-- what is kept: the terms of the state variables, and the versions of those of parameters and locals that live for one
-- step
pub record KeptTerms : Type 0 where
  pub values : List TermId
  pub step : List Version

-- the type of the cell of a number, as a body of an instance sees it
abbrev pub type_at : CellTables → SiteBody → CellNumber → Option Ty
type_at x at (State k) = option_map (λ (v : Var). v.ty) (slice_get x.vars k)
type_at x at (Step slot) = option_map (λ (s : Slot). s.ty) (slot_in x at slot)

-- over a table and values of the inputs the terms that are kept have the values in the cells of a memory
pub record Keeps (x : CellTables) (u : Table) (v : List ℕ) (k : KeptTerms) (m : Memory) : Type 0 where
  pub values : m.values ≡ map (value_of u v) k.values
  pub step : (cell : StepCell) (c : Cell) → cell_at x cell.at (Step cell.slot) ≡ Some c →
      read m c ≡ step_value u v k.step cell

-- the term of a version is known, and has as many bits as its cell's type, or is a truth
abbrev pub IsKeptVersion : CellTables → Table → Version → Type 0
IsKeptVersion x t (Put cell id) =
    (s : Slot) → slot_in x cell.at cell.slot ≡ Some s → IsTerm t (type_bits (spec_tree x.spec) s.ty) id
IsKeptVersion x t (Choice guard _ _) = IsTerm t 1 guard

-- the term of a version was put into a parameter or local of the text
abbrev pub HasSlot : CellTables → Version → Type 0
HasSlot x (Put cell _) = (s : Slot) × (slot_in x cell.at cell.slot ≡ Some s)
HasSlot x (Choice _ _ _) = ⊤

-- each term that is kept is known, and has as many bits as its cell's type
pub record AreKept (x : CellTables) (t : Table) (k : KeptTerms) : Type 0 where
  pub values : (i : ℕ) (id : TermId) (v : Var) → slice_get k.values i ≡ Some id → slice_get x.vars i ≡ Some v →
      IsTerm t (type_bits (spec_tree x.spec) v.ty) id
  pub step : All (IsKeptVersion x t) k.step

-- over some tables of cells the terms that are kept are known, and a cell's type has so many bits
pub record IsCellKept (t : Table) (k : KeptTerms) (at : SiteBody) (cell : CellNumber) (width : ℕ) : Type 0 where
  pub tables : CellTables
  pub ty : Ty
  pub kept : AreKept tables t k
  pub typed : type_at tables at cell ≡ Some ty
  pub bits : type_bits (spec_tree tables.spec) ty ≡ width
