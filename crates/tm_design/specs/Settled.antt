-- What a checked text settles of the cells of its designs.
use Rattle.std.specs.Prelude.{◌≡◌, ℕ, ◌^◌, ◌<◌, ◌≤◌, None, Some, List, slice_get, unwrap_or}
use Rattle.std.specs.Option.{option_and_then}
use Rattle.tm_syntax.specs.declared.tree.Ident.{Ident}
use Rattle.tm_syntax.specs.declared.design.Ty.{Ty}
use Rattle.tm_syntax.specs.Tree.{path}
use Rattle.tm_syntax.specs.Scopes.Context.{Context}
use Rattle.tm_syntax.specs.Scopes.Names.{constant_value}
use Rattle.tm_syntax.specs.Scopes.Types.{named_type, own_type}
use Rattle.tm_syntax.specs.Faults.Operands.{is_valued}
use Rattle.tm_syntax.specs.Design.{DesignTree}
use Rattle.tm_syntax.specs.Design.Scope.{Scope, context, length_in}
use Rattle.tm_syntax.specs.Design.Cells.{Cell, cell, cell_type}
use Rattle.tm_syntax.specs.Design.Sizes.{type_bits}
use Rattle.tm_typing.specs.HasType.{IsOfSort}

-- the value of the enum constant that the first name of a path is, 0 where it is none
abbrev pub constant_at : DesignTree → List Ident → ℕ
constant_at d names =
    unwrap_or (option_and_then (λ (name : Ident). constant_value d.spec name.text) (slice_get names 0)) 0

-- each cell that a path means has the type that the text says, and no array has an element past its end
pub record AreSettled (d : DesignTree) : Type 0 where
  pub variables : (scope : Scope) (c : Context) (names : List Ident) (ty : Ty) (found : Cell) →
      context d scope ≡ Some c → own_type c (path names) ≡ Some ty → cell d scope names None ≡ Some found →
      cell_type d found ≡ Some ty
  -- a path without a cell is an enum constant, whose value is one of its type, if it is a number of 64 bits
  pub constants : (scope : Scope) (c : Context) (names : List Ident) (ty : Ty) →
      context d scope ≡ Some c → own_type c (path names) ≡ Some ty → IsOfSort is_valued c names →
      cell d scope names None ≡ None → constant_at d names < 2 ^ 64 → constant_at d names < 2 ^ type_bits d.spec ty
  pub elements : (scope : Scope) (c : Context) (names : List Ident) (index : ℕ) (ty : Ty) (found : Cell) →
      context d scope ≡ Some c → named_type c names ≡ Some ty → cell d scope names (Some index) ≡ Some found →
      cell_type d found ≡ Some ty
  pub ends : (scope : Scope) (names : List Ident) (size index : ℕ) → length_in d scope names ≡ Some size →
      size ≤ index → cell d scope names (Some index) ≡ None
