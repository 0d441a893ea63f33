-- The controllable tasks of a design, by its tables.
use Rattle.std.specs.Prelude.{◌≡◌, ℕ, Some}
use Rattle.tm_syntax.specs.declared.tree.TaskDef.{TaskDef}
use Rattle.tm_syntax.specs.Tree.View.{body_tree}
use Rattle.tm_syntax.specs.Design.{DesignTree}
use Rattle.tm_syntax.specs.Design.Cells.{Called}
use Rattle.tm_scope.specs.Cells.{CellTables, scope_of}
use Rattle.tm_scope.specs.declared.cells.site_body.SiteBody.{SiteBody}
use Rattle.tm_sem.specs.Step.{task_of}
use Rattle.tm_design.specs.Parameters.{called_by, task_at}

-- the controllable task of a number is this one, which is this body of an instance
pub record IsControllable (x : CellTables) (d : DesignTree) (number : ℕ) (at : SiteBody) (task : TaskDef) : Type 0
  where
    pub called : Called
    pub is : task_of d number ≡ Some called
    pub by : called_by d at.instance at.body ≡ Some called
    pub scope : called.scope ≡ scope_of at
    pub body : called.body ≡ body_tree task.body
    pub stands : task_at (record { tables = x; at = at }) ≡ Some task
