-- Where the arguments of a call are read, and into which cells they go.
use Rattle.std.specs.Prelude.{◌≡◌, ◌+◌, ◌≤◌, ℕ, Some, List, map}
use Rattle.tm_syntax.specs.declared.design.Ty.{Ty}
use Rattle.tm_syntax.specs.declared.tree.Param.{Param}
use Rattle.tm_syntax.specs.declared.tree.TaskDef.{TaskDef}
use Rattle.tm_syntax.specs.Scopes.Names.{type_of}
use Rattle.tm_syntax.specs.Design.{DesignTree}
use Rattle.tm_syntax.specs.Design.Cells.{Called, Cell, cell_type}
use Rattle.tm_syntax.specs.Design.Sizes.{type_bits}
use Rattle.tm_scope.specs.Cells.{CellTables, HasCells, cell_at}
use Rattle.tm_scope.specs.declared.cells.site_body.CellNumber.{CellNumber}
use Rattle.tm_scope.specs.declared.cells.site_body.SiteBody.{SiteBody}
use Rattle.tm_typing.specs.HasType.{IsSized}
use Rattle.tm_design.specs.Parameters.{called_by, task_at}
use Rattle.tm_design.specs.Values.{HasParameters}
use Rattle.tm_flat.specs.Fitting.{ArgumentsFit}
use Rattle.tm_flat.specs.Inputs.{room}
use Rattle.tm_design.specs.StepCells.{AreApart}
use Rattle.tm_flat_moves.specs.Arguments.{params_of}
use Rattle.tm_flat_moves.specs.Callable.{AreSized}

-- the argument of a parameter may be read from a position of the bits on: the cell of a number is that of the
-- parameter, which is of a type
pub record IsParameter (x : CellTables) (d : DesignTree) (at : SiteBody) (number : CellNumber) (ty : Ty) (c : Cell)
    (k : ℕ) : Type 0 where
  pub cells : HasCells x d
  pub apart : AreApart x
  pub there : cell_at x at number ≡ Some c
  pub typed : cell_type d c ≡ Some ty
  pub sized : IsSized ty
  pub within : k + type_bits d.spec ty ≤ room

-- so may those of all parameters of a body, whose cells have these numbers
pub record AreParameters (x : CellTables) (d : DesignTree) (at : SiteBody) (numbers : List CellNumber)
    (params : List Param) : Type 0 where
  pub cells : HasCells x d
  pub apart : AreApart x
  pub are : map (cell_at x at) numbers ≡ map Some (params_of d at)
  pub typed : map (cell_type d) (params_of d at) ≡ map (λ (p : Param). Some (type_of p.ty)) params
  pub sized : AreSized d (params_of d at)
  pub fits : ArgumentsFit room d (params_of d at) 0

-- so may those of a task
pub record IsReadable (x : CellTables) (d : DesignTree) (at : SiteBody) (task : TaskDef) : Type 0 where
  pub cells : HasCells x d
  pub apart : AreApart x
  pub stands : task_at (record { tables = x; at = at }) ≡ Some task
  pub called : Called
  pub by : called_by d at.instance at.body ≡ Some called
  pub typed : HasParameters d
  pub sized : AreSized d called.params
  pub fits : ArgumentsFit room d called.params 0
