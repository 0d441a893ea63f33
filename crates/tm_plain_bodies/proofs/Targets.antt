-- The types of the targets of assignments.
use Rattle.std.proofs.Common.{◌≡◌, ℕ, Option, None, Some, List, sym, ap, subst}
use Rattle.std.specs.Prelude.{unwrap_or}
use Rattle.tm_syntax.specs.declared.tree.Ident.{Ident}
use Rattle.tm_syntax.specs.declared.design.Ty.{Ty}
use Rattle.tm_syntax.specs.declared.design.Ty.TheVariants as types
use Rattle.tm_syntax.specs.Tree.{ExprTree, element}
use Rattle.tm_syntax.specs.Scopes.Context.{Context}
use Rattle.tm_syntax.specs.Scopes.Types.{either_type, constant_type, named_type}
use Rattle.tm_syntax.specs.Design.{DesignTree}
use Rattle.tm_syntax.specs.Design.Scope.{Scope, context}
use Rattle.tm_syntax.specs.Design.Cells.{Cell, cell, cell_type}
use Rattle.tm_sem.specs.Run.{asked_by}
use Rattle.tm_typing.specs.HasType.{HasType, IsSized, an_element_at, an_element}
use Rattle.tm_typing.specs.Statements.{TargetResolves}
use Rattle.tm_design.specs.Runnable.{HasTypedCells}

-- the type of a target, which has a width that numbers can have
pub record TargetType (c : Context) (names : List Ident) : Type 0 where
  pub ty : Ty
  pub sized : IsSized ty
  pub named : named_type c names ≡ Some ty

of_element : (c : Context) (names : List Ident) (e : ExprTree) (ty : Ty) → HasType c ty (element names e) →
    TargetType c names
of_element c names e ty (an_element_at sized named _ _ _) = record { ty = ty; sized = sized; named = named }
of_element c names e ty (an_element sized named _ _ _ _) = record { ty = ty; sized = sized; named = named }

pub target_type : (c : Context) (names : List Ident) (index : Option ExprTree) → TargetResolves c names index →
    TargetType c names
target_type c names None h = record { ty = h.ty; sized = h.sized; named = h.is }
target_type c names (Some e) h = of_element c names e h.0 h.1

module _ (d : DesignTree) (typed : HasTypedCells d) (scope : Scope) (c : Context) (here : context d scope ≡ Some c)
    (names : List Ident) (ty : Ty) (named : named_type c names ≡ Some ty) where
  -- a cell that a target means has its type
  pub typed_cell : (index : Option ℕ) (found : Cell) → cell d scope names index ≡ Some found →
      cell_type d found ≡ Some ty
  typed_cell None found is =
      typed.variables scope c names ty found here
      (ap (λ o. either_type o (constant_type c.spec names)) named) is
  typed_cell (Some k) found is = typed.elements scope c names k ty found here named is

  pub asked_is : (index : Option ℕ) (found : Cell) → cell d scope names index ≡ Some found →
      asked_by d (Some found) ≡ ty
  asked_is index found is = ap (λ o. unwrap_or o types.Bool) (typed_cell index found is)

  -- what a target asks for has a width that numbers can have
  pub asked_sized : IsSized ty → (index : Option ℕ) (o : Option Cell) → cell d scope names index ≡ o →
      IsSized (asked_by d o)
  asked_sized sized index None is = tt
  asked_sized sized index (Some found) is = subst IsSized (sym (asked_is index found is)) sized
