-- The calls that the driver makes.
use Rattle.std.specs.Prelude.{◌≡◌, ℕ, Bool, true, IfNone, IfSome, List, Option, None, Some, is_some, length}
use Rattle.std.specs.List.{AllByRecursion}
use Rattle.tm_syntax.specs.declared.design.Design.{Design}
use Rattle.tm_syntax.specs.declared.tree.TaskDef.{TaskDef}
use Rattle.tm_syntax.specs.Tree.View.{body_tree}
use Rattle.tm_syntax.specs.Design.Cells.{Called}
use Rattle.tm_syntax.specs.Design.View.{design_tree}
use Rattle.tm_scope.specs.Cells.{ScopedCells, scope_of}
use Rattle.tm_scope.specs.declared.cells.site_body.SiteBody.{SiteBody}
use Rattle.tm_scope.specs.declared.context.BodyName.TheVariants.{Outside}
use Rattle.tm_sem.specs.Run.{asked_by}
use Rattle.tm_sem.specs.State.{StateData}
use Rattle.tm_sem.specs.Step.{arguments_fit, call_work, is_driver_turn, task_of}
use Rattle.tm_typing.specs.HasType.{IsSized}
use Rattle.tm_design.specs.Parameters.{called_by, task_at}
use Rattle.tm_plain_bodies.specs.declared.frame.Frame.{Frame}
use Rattle.tm_plain_bodies.specs.Frames.{IsFrame}
use Rattle.tm_plain_bodies.specs.Tables.{body_of}
use Rattle.tm_plain.specs.declared.machine.tasks.DriverTask.{DriverTask}

-- a controllable task of a design is this one, which is done in this body of an instance
pub record IsDriverTask (d : Design) (number : ℕ) (f : Frame) (task : TaskDef) : Type 0 where
  pub at : SiteBody
  pub called : Called
  pub is : task_of (design_tree d) number ≡ Some called
  pub by : called_by (design_tree d) at.instance at.body ≡ Some called
  pub scope : called.scope ≡ scope_of at
  pub body : called.body ≡ body_tree task.body
  pub stands : task_at (body_of d at) ≡ Some task
  pub frame : IsFrame d at f
  -- each parameter has a cell, which asks for a type whose numbers have a width that they can have
  pub as_many : length called.params ≡ length task.params.items
  pub sized : AllByRecursion (λ c. IsSized (asked_by (design_tree d) (Some c))) called.params

-- a controllable task of this number is there, and was found
abbrev pub IsFoundTask : Design → ℕ → Option DriverTask → Type 0
IsFoundTask d number (Some k) = IsDriverTask d number k.frame k.task.now
IsFoundTask d number None = ⊥

-- whether arguments fit the parameters of a task
abbrev pub Suits : DriverTask → List ℕ → Bool → Type 0
Suits k args fit =
    (d : Design) (number : ℕ) (of : IsDriverTask d number k.frame k.task.now) →
    fit ≡ arguments_fit (design_tree d) of.called.params args

-- whether the driver may call what was found of the task of a number with these arguments, in a turn of its own
abbrev pub Takes : Option DriverTask → List ℕ → Bool → Type 0
Takes found args fit =
    (d : Design) (number : ℕ) (s : StateData) → IfSome found (λ k. IsDriverTask d number k.frame k.task.now) →
    IfNone found (task_of (design_tree d) number ≡ None) → is_driver_turn (design_tree d) s ≡ true →
    fit ≡ is_some (call_work (design_tree d) s number args)

-- what stands outside of the bodies of an instance
abbrev pub outside_of : Design → ℕ → ScopedCells
outside_of d n = body_of d (record { instance = n; body = Outside })
