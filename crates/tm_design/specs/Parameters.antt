-- Tasks of instances, as calls run them.
use Rattle.std.specs.Prelude.{◌≡◌, ℕ, Option, None, Some, List, length, map, slice_get}
use Rattle.std.specs.Option.{option_and_then}
use Rattle.tm_syntax.specs.declared.design.Instance.{Instance}
use Rattle.tm_syntax.specs.declared.tree.TaskDef.{TaskDef}
use Rattle.tm_syntax.specs.declared.tree.Template.{Template}
use Rattle.tm_syntax.specs.Design.{DesignTree}
use Rattle.tm_syntax.specs.Design.Cells.{Called, task_called}
use Rattle.tm_syntax.specs.Design.Scope.{site}
use Rattle.tm_scope.specs.Cells.{HasCells, ScopedCells, cell_at}
use Rattle.tm_scope.specs.declared.cells.site_body.CellNumber.{CellNumber}
use Rattle.tm_scope.specs.declared.context.BodyName.{BodyName}
use Rattle.tm_scope.specs.declared.context.BodyName.TheVariants.{Process, Task, Outside}

-- the task whose body this is
abbrev pub named_task : Template → BodyName → Option TaskDef
named_task t (Process _) = None
named_task t (Task k) = slice_get t.tasks.items k
named_task t Outside = None

-- the task that is this body of an instance
abbrev pub task_at : ScopedCells → Option TaskDef
task_at s =
    option_and_then (λ (i : Instance). option_and_then (λ t. named_task t s.at.body)
    (slice_get s.tables.spec.templates.items i.template)) (slice_get s.tables.instances s.at.instance)

-- a body of an instance, as a call runs it: only tasks are called
abbrev pub called_by : DesignTree → ℕ → BodyName → Option Called
called_by d instance (Process _) = None
called_by d instance (Task k) = option_and_then (λ s. task_called d s k) (site d instance)
called_by d instance Outside = None

-- these are the numbers of the cells into which the arguments go, in each design that has a cell for each of so many
pub record AreCalledCells (s : ScopedCells) (count : ℕ) (numbers : List CellNumber) : Type 0 where
  pub cells : (d : DesignTree) → HasCells s.tables d → (c : Called) →
      called_by d s.at.instance s.at.body ≡ Some c → length c.params ≡ count →
      map (cell_at s.tables s.at) numbers ≡ map Some c.params
