-- The bits of a target are those that its text says, and enough for each value of its cell.
use Rattle.std.proofs.Common.{◌≡◌, ℕ, zero, suc, ◌≤◌, ◌^◌, Option, None, Some, List, refl, sym, ap, ◌∙◌, subst, arith}
use Rattle.std.specs.Option.{option_map_or, option_and_then}
use Rattle.std.specs.Prelude.{unwrap_or}
use Rattle.tm_syntax.specs.declared.design.Ty.{Ty}
use Rattle.tm_syntax.specs.declared.design.Ty.TheVariants as types
use Rattle.tm_syntax.specs.declared.tree.Ident.{Ident}
use Rattle.tm_syntax.specs.Tree.{ExprTree, element, path}
use Rattle.tm_syntax.specs.Scopes.Context.{Context}
use Rattle.tm_syntax.specs.Scopes.Types.{constant_type, either_type, own_type}
use Rattle.tm_syntax.specs.Counts.Choices.{star_bits}
use Rattle.tm_syntax.specs.Design.{DesignTree}
use Rattle.tm_syntax.specs.Design.Cells.{Cell, cell, cell_type}
use Rattle.tm_syntax.specs.Design.Scope.{Scope, context}
use Rattle.tm_syntax.specs.Design.Sizes.{type_bits, type_size}
use Rattle.tm_sem.specs.Run.{asked_by}
use Rattle.tm_flat.specs.Fitting.{TargetFits}
use Rattle.tm_flat.specs.Inputs.{AreSmall}
use Rattle.tm_flat.specs.Positions.{target_bits}
use Rattle.tm_flat.proofs.Widths.{type_has_bits}
use Rattle.tm_typing.specs.HasType.{HasType, IsSized, an_element, an_element_at}
use Rattle.tm_typing.specs.Statements.{HasTarget, TargetResolves}
use Rattle.tm_design.specs.Runnable.{HasTypedCells}

-- a target of an assignment, with an index or without one, has a type
pub target_typed : (c : Context) (names : List Ident) (index : Option ExprTree) → TargetResolves c names index →
    HasTarget c names
target_typed c names None resolves = resolves
target_typed c names (Some e) resolves = by resolves.0 e resolves.1
  where
    by : (ty : Ty) (e : ExprTree) → HasType c ty (element names e) → HasTarget c names
    by ty _ (an_element_at sized is _ _ _) = record { ty = ty; sized = sized; is = is }
    by ty _ (an_element sized is _ _ _ _) = record { ty = ty; sized = sized; is = is }

one_fits : (n : ℕ) → 1 ≤ 2 ^ n
one_fits zero = omega arith
one_fits (suc n) = let rest = one_fits n in omega (arith, rest)

two_fit : (n : ℕ) → 1 ≤ n → 2 ≤ 2 ^ n
two_fit zero some = absurd (omega (arith, some))
two_fit (suc n) some = let one = one_fits n in omega (arith, one)

module _ (d : DesignTree) (small : AreSmall d) where
  -- the bits of a type hold a bit, and each of its values
  bit_fits : (ty : Ty) → IsSized ty → 2 ≤ 2 ^ type_bits d.spec ty
  bit_fits types.Bool sized = omega arith
  bit_fits (types.Uint n) sized = two_fit n sized.low
  bit_fits (types.Enum name) sized = two_fit (type_bits d.spec (types.Enum name)) (omega arith)

  pub values_fit : (ty : Ty) → type_size d.spec ty ≤ 2 ^ type_bits d.spec ty
  values_fit types.Bool = omega arith
  values_fit (types.Uint n) = omega arith
  values_fit (types.Enum name) = type_has_bits d.spec (types.Enum name) (small.enums name)

  module _ (typed : HasTypedCells d) (scope : Scope) (c : Context) (here : context d scope ≡ Some c)
      (same : c.spec ≡ d.spec) (names : List Ident) (target : HasTarget c names) where
    own : own_type c (path names) ≡ Some target.ty
    own = ap (λ (o : Option Ty). either_type o (constant_type c.spec names)) target.is

    bits_are : target_bits d scope names ≡ type_bits d.spec target.ty
    bits_are =
        ap (λ (o : Option Context). type_bits d.spec (unwrap_or (option_and_then (λ c. own_type c (path names)) o)
        types.Bool)) here
        ∙ ap (λ (o : Option Ty). type_bits d.spec (unwrap_or o types.Bool)) own

    pub target_bits_are : target_bits d scope names ≡ star_bits c names
    target_bits_are =
        bits_are ∙ ap (λ spec. type_bits spec target.ty) (sym same)
        ∙ ap (λ (o : Option Ty). option_map_or (type_bits c.spec) o 0) (sym target.is)

    cell_fits : (o : Option Cell) → ((x : Cell) → o ≡ Some x → cell_type d x ≡ Some target.ty) →
        type_size d.spec (asked_by d o) ≤ 2 ^ type_bits d.spec target.ty
    cell_fits None is = bit_fits target.ty target.sized
    cell_fits (Some x) is =
        subst (λ (o : Option Ty). type_size d.spec (unwrap_or o types.Bool) ≤ 2 ^ type_bits d.spec target.ty)
        (sym (is x refl)) (values_fit target.ty)

    pub target_fits : TargetFits d scope names
    target_fits index =
        subst (λ bits. type_size d.spec (asked_by d (cell d scope names index)) ≤ 2 ^ bits) (sym bits_are)
        (cell_fits (cell d scope names index) (by index))
      where
        by : (index : Option ℕ) (x : Cell) → cell d scope names index ≡ Some x → cell_type d x ≡ Some target.ty
        by None x is = typed.variables scope c names target.ty x here own is
        by (Some i) x is = typed.elements scope c names i target.ty x here target.is is
