-- The parameters of controllable tasks.
use Rattle.std.specs.Prelude.{◌≡◌, ◌≤◌, ℕ, All, Some, List, slice_get}
use Rattle.tm_syntax.specs.declared.design.Design.{Design}
use Rattle.tm_syntax.specs.declared.tree.TaskDef.{TaskDef}
use Rattle.tm_syntax.specs.Tree.View.{task_tree}
use Rattle.tm_syntax.specs.Design.Cells.{Called, task_called}
use Rattle.tm_syntax.specs.Design.Scope.{Site, site}
use Rattle.tm_syntax.specs.Design.View.{design_tree}
use Rattle.tm_sem.specs.Step.{task_of}
use Rattle.tm_flat.specs.Inputs.{room}

-- widths within the bits that there are for arguments
abbrev pub AreNarrow : List ℕ → Type 0
AreNarrow widths = All (λ w. w ≤ room) widths

-- a controllable task of a design is this one of the text
pub record IsDriverTask (d : Design) (number : ℕ) (task : TaskDef) : Type 0 where
  pub instance : ℕ
  pub home : Site
  pub index : ℕ
  pub called : Called
  pub is : task_of (design_tree d) number ≡ Some called
  pub stands : site (design_tree d) instance ≡ Some home
  pub listed : slice_get home.template.tasks index ≡ Some (task_tree task)
  pub by : task_called (design_tree d) home index ≡ Some called
