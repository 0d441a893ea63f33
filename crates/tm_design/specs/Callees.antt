-- Which tasks of instances paths call.
use Rattle.std.specs.Prelude.{◌≡◌, Some, List}
use Rattle.tm_syntax.specs.declared.tree.Ident.{Ident}
use Rattle.tm_syntax.specs.declared.tree.TaskDef.{TaskDef}
use Rattle.tm_syntax.specs.Tree.View.{body_tree}
use Rattle.tm_syntax.specs.Design.{DesignTree}
use Rattle.tm_syntax.specs.Design.Cells.{Called, called as called_from}
use Rattle.tm_syntax.specs.Design.Scope.{Scope}
use Rattle.tm_scope.specs.Cells.{CellTables, HasCells, scope_of}
use Rattle.tm_scope.specs.Instances.{InstanceTables}
use Rattle.tm_scope.specs.declared.cells.site_body.SiteBody.{SiteBody}
use Rattle.tm_design.specs.Parameters.{called_by, task_at}

-- the text and the instances of some tables
abbrev pub instances_of : CellTables → InstanceTables
instances_of x = record { spec = x.spec; instances = x.instances }

-- in a design a path of a body calls this task of an instance
pub record RunsTask (d : DesignTree) (from : Scope) (names : List Ident) (at : SiteBody) (task : TaskDef) : Type 0
  where
    pub called : Called
    pub is : called_from d from names ≡ Some called
    pub by : called_by d at.instance at.body ≡ Some called
    pub scope : called.scope ≡ scope_of at
    pub body : called.body ≡ body_tree task.body

-- a path of a body calls this task of an instance, in each design of these tables
pub record IsCallee (x : CellTables) (from : SiteBody) (names : List Ident) (at : SiteBody) (of : TaskDef) : Type 0
  where
    pub task : task_at (record { tables = x; at = at }) ≡ Some of
    pub runs : (d : DesignTree) → HasCells x d → RunsTask d (scope_of from) names at of
