-- The cells of single parameters.
use Rattle.std.specs.Prelude.{◌≡◌, Option, Some}
use Rattle.std.specs.Option.{option_and_then}
use Rattle.tm_syntax.specs.declared.tree.Param.{Param}
use Rattle.tm_syntax.specs.Scopes.Context.{frame_of, param_slot}
use Rattle.tm_syntax.specs.Design.{DesignTree}
use Rattle.tm_syntax.specs.Design.Cells.{Cell, slot_cell}
use Rattle.tm_syntax.specs.Design.Scope.{site}
use Rattle.tm_scope.specs.Cells.{HasCells, ScopedCells, cell_at, scope_of}
use Rattle.tm_scope.specs.Context.{body_name}
use Rattle.tm_scope.specs.declared.cells.site_body.SiteBody.{SiteBody}
use Rattle.tm_scope.specs.declared.cells.site_body.CellNumber.{CellNumber}

-- the cell of a parameter of a body of an instance
abbrev pub param_cell : DesignTree → SiteBody → Param → Option Cell
param_cell d at p =
    option_and_then (λ s. option_and_then (λ frame. slot_cell d (scope_of at) s frame (param_slot p))
    (frame_of d.spec s.template (body_name at.body))) (site d at.instance)

-- this is the number of the cell of a parameter, in each design that has one
abbrev pub IsParamCell : ScopedCells → Param → CellNumber → Type 0
IsParamCell s p number =
    (d : DesignTree) → HasCells s.tables d → (c : Cell) → param_cell d s.at p ≡ Some c →
    cell_at s.tables s.at number ≡ Some c
