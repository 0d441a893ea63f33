-- What a checked text settles of the values of its designs, and of the parameters that get some.
use Rattle.std.specs.Prelude.{◌≡◌, ℕ, ◌<◌, None, Some, List, IfSome, map, slice_get}
use Rattle.std.specs.List.{AllByRecursion}
use Rattle.tm_syntax.specs.declared.tree.Ident.{Ident}
use Rattle.tm_syntax.specs.declared.tree.Param.{Param}
use Rattle.tm_syntax.specs.declared.design.Ty.{Ty}
use Rattle.tm_syntax.specs.declared.design.Var.{Var}
use Rattle.tm_syntax.specs.Tree.{SpecTree, TaskTree, path}
use Rattle.tm_syntax.specs.Scopes.Context.{Context}
use Rattle.tm_syntax.specs.Scopes.Names.{type_of}
use Rattle.tm_syntax.specs.Scopes.Types.{own_type}
use Rattle.tm_syntax.specs.Faults.Operands.{is_valued}
use Rattle.tm_syntax.specs.Design.{DesignTree}
use Rattle.tm_syntax.specs.Design.Scope.{Scope, Site, context, site}
use Rattle.tm_syntax.specs.Design.Cells.{Called, cell, cell_type, task_called}
use Rattle.tm_syntax.specs.Design.Sizes.{type_size}
use Rattle.tm_typing.specs.HasType.{IsOfSort, IsSized}
use Rattle.tm_design.specs.Settled.{constant_at}

-- the type of a variable has a width that numbers can have, and values, of which the declared value is one
pub record VarFits (spec : SpecTree) (v : Var) : Type 0 where
  pub sized : IsSized v.ty
  pub filled : 0 < type_size spec v.ty
  pub init : IfSome v.init (λ n. n < type_size spec v.ty)

-- each type has values, and what is declared or named is one of its type
pub record HasValues (d : DesignTree) : Type 0 where
  pub variables : AllByRecursion (VarFits d.spec) d.vars
  pub types : (scope : Scope) (c : Context) (names : List Ident) (ty : Ty) → context d scope ≡ Some c →
      own_type c (path names) ≡ Some ty → 0 < type_size d.spec ty
  -- a path without a cell is an enum constant
  pub constants : (scope : Scope) (c : Context) (names : List Ident) (ty : Ty) → context d scope ≡ Some c →
      own_type c (path names) ≡ Some ty → IsOfSort is_valued c names → cell d scope names None ≡ None →
      constant_at d names < type_size d.spec ty

-- each parameter of a task has a cell, which is of its type
pub record HasParameters (d : DesignTree) : Type 0 where
  pub parameters : (n : ℕ) (s : Site) (k : ℕ) (task : TaskTree) (c : Called) → site d n ≡ Some s →
      slice_get s.template.tasks k ≡ Some task → task_called d s k ≡ Some c →
      map (cell_type d) c.params ≡ map (λ (p : Param). Some (type_of p.ty)) task.params
