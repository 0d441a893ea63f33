-- What the targets and calls of a statement mean where it stands.
use Rattle.std.specs.Prelude.{◌≡◌, ⊤, ℕ, true, Option, None, Some, List, length}
use Rattle.tm_syntax.specs.declared.tree.Ident.{Ident}
use Rattle.tm_syntax.specs.declared.tree.TypeName.{TypeName}
use Rattle.tm_syntax.specs.declared.tree.TaskKind.TheVariants.{Procedure}
use Rattle.tm_syntax.specs.declared.design.Ty.{Ty}
use Rattle.tm_syntax.specs.Tree.{ExprTree, element, ValueTree, star, result, plain, StmtTree, assign, invoke, TaskTree, TemplateTree}
use Rattle.tm_syntax.specs.Scopes.Names.{type_of}
use Rattle.tm_syntax.specs.Scopes.Pauses.{task_reached}
use Rattle.tm_syntax.specs.Scopes.Context.{Context}
use Rattle.tm_syntax.specs.Scopes.Types.{named_type}
use Rattle.tm_syntax.specs.Faults.Mismatches.{call_fits}
use Rattle.tm_typing.specs.HasType.{IsSized, HasType}

-- a path that is assigned has a type
pub record HasTarget (c : Context) (names : List Ident) : Type 0 where
  pub ty : Ty
  pub sized : IsSized ty
  pub is : named_type c names ≡ Some ty

-- a path that is called leads to a task or procedure that the text may call with so many arguments
pub record HasCallee (c : Context) (names : List Ident) (count : ℕ) : Type 0 where
  pub template : TemplateTree
  pub task : TaskTree
  pub is : task_reached c.spec c.template names ≡ Some (template, task)
  pub fits : call_fits task count ≡ true

-- a call that stands as a value is one of a procedure with a result of the target's type
pub record HasResult (c : Context) (target names : List Ident) (count : ℕ) : Type 0 where
  pub callee : HasCallee c names count
  pub ty : TypeName
  pub is : callee.task.kind ≡ Procedure (Some ty)
  pub fits : (asked : Ty) → named_type c target ≡ Some asked → asked ≡ type_of ty

-- what is assigned to a target
abbrev pub ValueResolves : Context → List Ident → ValueTree → Type 0
ValueResolves c target (star _) = ⊤
ValueResolves c target (result names es) = HasResult c target names (length es)
ValueResolves c target (plain _) = ⊤

-- the target of an assignment: a path, or an element of an array
abbrev pub TargetResolves : Context → List Ident → Option ExprTree → Type 0
TargetResolves c names None = HasTarget c names
TargetResolves c names (Some index) = (ty : Ty) × HasType c ty (element names index)

-- the target and the call of a statement itself
abbrev pub StmtResolves : Context → StmtTree → Type 0
StmtResolves c (assign names index v) = TargetResolves c names index × ValueResolves c names v
StmtResolves c (invoke names es) = HasCallee c names (length es)
StmtResolves c _ = ⊤
