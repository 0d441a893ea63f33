-- What the paths of an expression mean where it stands.
use Rattle.std.specs.Prelude.{◌≡◌, ℕ, Some, List}
use Rattle.std.specs.List.{AllByRecursion}
use Rattle.tm_syntax.specs.declared.tree.Ident.{Ident}
use Rattle.tm_syntax.specs.declared.tree.Num.{Num}
use Rattle.tm_syntax.specs.declared.design.Ty.{Ty}
use Rattle.tm_syntax.specs.Tree.{ExprTree, path}
use Rattle.tm_syntax.specs.Scopes.Context.{Context}
use Rattle.tm_syntax.specs.Scopes.Types.{named_type, own_type}
use Rattle.tm_syntax.specs.Faults.Names.{expr_paths}
use Rattle.tm_syntax.specs.Faults.Operands.{is_valued, is_indexed}
use Rattle.tm_syntax.specs.Faults.Literals.{written_length}
use Rattle.tm_typing.specs.HasType.{IsSized, IsValueOf, IsOfSort}

-- a path that stands for a value has a type
pub record IsTypedPath (c : Context) (names : List Ident) : Type 0 where
  pub ty : Ty
  pub sized : IsSized ty
  pub is : own_type c (path names) ≡ Some ty

-- a path that stands for an array has the type of its elements, and a length
pub record IsArrayPath (c : Context) (names : List Ident) : Type 0 where
  pub ty : Ty
  pub length : Num
  pub size : ℕ
  pub sized : IsSized ty
  pub is : named_type c names ≡ Some ty
  pub written : written_length c names ≡ Some length
  pub value : IsValueOf length size

-- if a path suits the place of a value, it has a type, and if it suits that of an array, its elements have one; of a
-- path that suits neither nothing is said
pub record Resolves (c : Context) (names : List Ident) : Type 0 where
  pub value : IsOfSort is_valued c names → IsTypedPath c names
  pub array : IsOfSort is_indexed c names → IsArrayPath c names

-- so it is of all paths of an expression
abbrev pub AreResolved : Context → ExprTree → Type 0
AreResolved c e = AllByRecursion (Resolves c) (expr_paths e)
