-- What the states of a design ask of what is kept beside it, and what they hold.
use Rattle.std.specs.Prelude.{◌≡◌, ℕ, ◌+◌, ◌<◌, Option, Some, List, length}
use Rattle.std.specs.List.{AllByRecursion, AllZip, range_with_len}
use Rattle.tm_syntax.specs.declared.design.Ty.{Ty}
use Rattle.tm_syntax.specs.declared.design.Var.{Var}
use Rattle.tm_syntax.specs.declared.tree.Ident.{Ident}
use Rattle.tm_syntax.specs.Design.{DesignTree}
use Rattle.tm_syntax.specs.Design.Cells.{Cell, cell, cell_type}
use Rattle.tm_syntax.specs.Design.Scope.{Scope}
use Rattle.tm_syntax.specs.Design.Sizes.{type_size}
use Rattle.tm_sem.specs.Value.{Memory, read}
use Rattle.tm_typing.specs.HasType.{IsSized}
use Rattle.tm_locations.specs.Locations.{AreLocations, table_of}
use Rattle.tm_locations.specs.declared.table.Locations.{Locations}

-- the types of variables have widths that numbers can have
abbrev pub AreSized : List Var → Type 0
AreSized vars = AllByRecursion (λ (v : Var). IsSized v.ty) vars

-- the number of the end behind the locations of a table
abbrev pub end_of : Locations → ℕ
end_of t = length (table_of t).rows + 1

-- there is a table for each process, which has its locations
abbrev pub HaveLocations : DesignTree → List Locations → Type 0
HaveLocations d tables = AllZip (λ p t. AreLocations (table_of t) d p) (range_with_len 0 (length d.processes)) tables

-- each cell that a path means holds a value of its type, where this has any
pub record HoldsValues (d : DesignTree) (m : Memory) : Type 0 where
  pub cells : (scope : Scope) (names : List Ident) (index : Option ℕ) (c : Cell) (ty : Ty) →
      cell d scope names index ≡ Some c → cell_type d c ≡ Some ty → 0 < type_size d.spec ty →
      read m c < type_size d.spec ty
