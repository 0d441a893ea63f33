-- What runs by tables ask of a design.
use Rattle.std.specs.Prelude.{◌≡◌, ◌<◌, ℕ, ◌+◌, ◌^◌, None, Some, List, length, map, slice_get}
use Rattle.std.specs.List.{AllByRecursion}
use Rattle.tm_syntax.specs.declared.design.Ty.{Ty}
use Rattle.tm_syntax.specs.declared.tree.Ident.{Ident}
use Rattle.tm_syntax.specs.declared.tree.Param.{Param}
use Rattle.tm_syntax.specs.Tree.{TaskTree, path}
use Rattle.tm_syntax.specs.Scopes.Context.{Context}
use Rattle.tm_syntax.specs.Scopes.Names.{type_of}
use Rattle.tm_syntax.specs.Scopes.Types.{named_type, own_type}
use Rattle.tm_syntax.specs.Design.{DesignTree}
use Rattle.tm_syntax.specs.Design.Cells.{Called, Cell, cell, cell_type, task_called}
use Rattle.tm_syntax.specs.Design.Locations.{end_number}
use Rattle.tm_syntax.specs.Design.Scope.{Scope, Site, context, site}
use Rattle.tm_typing.specs.HasType.{IsSized}
use Rattle.tm_sem.specs.Run.{asked_by}
use Rattle.tm_sem.specs.Step.{task_of}

-- each cell that a path means has the type that the text says
pub record HasTypedCells (d : DesignTree) : Type 0 where
  pub variables : (scope : Scope) (c : Context) (names : List Ident) (ty : Ty) (found : Cell) →
      context d scope ≡ Some c → own_type c (path names) ≡ Some ty → cell d scope names None ≡ Some found →
      cell_type d found ≡ Some ty
  pub elements : (scope : Scope) (c : Context) (names : List Ident) (index : ℕ) (ty : Ty) (found : Cell) →
      context d scope ≡ Some c → named_type c names ≡ Some ty → cell d scope names (Some index) ≡ Some found →
      cell_type d found ≡ Some ty
  -- each parameter of a task has a cell
  pub parameters : (n : ℕ) (s : Site) (k : ℕ) (task : TaskTree) (c : Called) → site d n ≡ Some s →
      slice_get s.template.tasks k ≡ Some task → task_called d s k ≡ Some c →
      map (cell_type d) c.params ≡ map (λ (p : Param). Some (type_of p.ty)) task.params

-- the parameters of each controllable task ask for types whose numbers have a width that they can have
abbrev pub HasSizedCalls : DesignTree → Type 0
HasSizedCalls d =
    (t : ℕ) (c : Called) → task_of d t ≡ Some c → AllByRecursion (λ c. IsSized (asked_by d (Some c))) c.params

-- the numbers of processes and of locations are those that a state can have
pub record HasFewPlaces (d : DesignTree) : Type 0 where
  pub processes : 2 + length d.processes < 2 ^ 32
  pub places : (p : ℕ) → end_number d p < 2 ^ 32

-- what a design has that its runs ask for
pub record IsFit (d : DesignTree) : Type 0 where
  pub typed : HasTypedCells d
  pub few : HasFewPlaces d
  pub sized : HasSizedCalls d
