-- An expression of a type is valued in it: its own type is this one, or it has none.
use Rattle.std.proofs.Common.{◌≡◌, ◌^◌, Option, None, Some, refl, ap}
use Rattle.std.specs.Prelude.{unwrap_or}
use Rattle.tm_syntax.specs.declared.design.Ty.{Ty}
use Rattle.tm_syntax.specs.declared.design.Ty.TheVariants as types
use Rattle.tm_syntax.specs.Tree.{ExprTree}
use Rattle.tm_syntax.specs.Scopes.Context.{Context}
use Rattle.tm_syntax.specs.Scopes.Types.{either_type, own_type, valued_in}
use Rattle.tm_typing.specs.HasType.{adds, subtracts, ands, ors, xors, and_also, or_else, equals, differs, is_less, is_at_most, is_greater, is_at_least, HasType, a_truth, a_number, a_path, a_group, a_negation, a_complement, arithmetic, logic, a_comparison, a_shift, a_conditional, a_cast, an_element_at, an_element}

-- two that are valued in a type are joined in it
joined_in : (ty : Ty) (first second : Option Ty) → valued_in ty first ≡ ty → valued_in ty second ≡ ty →
    valued_in ty (either_type first second) ≡ ty
joined_in ty None second a b = b
joined_in ty (Some s) second a b = a

pub valued : {c : Context} {ty : Ty} {e : ExprTree} → HasType c ty e → valued_in ty (own_type c e) ≡ ty
valued a_truth = refl
valued (a_number _ _ _) = refl
valued {ty = ty} (a_path _ _ is) = ap (valued_in ty) is
valued (a_group e) = valued e
valued (a_negation _) = refl
valued (a_complement e) = valued e
valued {c = c} {ty = ty} (arithmetic {a = x} {b = y} adds a b) =
    joined_in ty (own_type c x) (own_type c y) (valued a) (valued b)
valued {c = c} {ty = ty} (arithmetic {a = x} {b = y} subtracts a b) =
    joined_in ty (own_type c x) (own_type c y) (valued a) (valued b)
valued {c = c} {ty = ty} (arithmetic {a = x} {b = y} ands a b) =
    joined_in ty (own_type c x) (own_type c y) (valued a) (valued b)
valued {c = c} {ty = ty} (arithmetic {a = x} {b = y} ors a b) =
    joined_in ty (own_type c x) (own_type c y) (valued a) (valued b)
valued {c = c} {ty = ty} (arithmetic {a = x} {b = y} xors a b) =
    joined_in ty (own_type c x) (own_type c y) (valued a) (valued b)
valued (logic and_also _ _) = refl
valued (logic or_else _ _) = refl
valued (a_comparison equals _ _ _) = refl
valued (a_comparison differs _ _ _) = refl
valued (a_comparison is_less _ _ _) = refl
valued (a_comparison is_at_most _ _ _) = refl
valued (a_comparison is_greater _ _ _) = refl
valued (a_comparison is_at_least _ _ _) = refl
valued (a_shift e _ _) = valued e
valued {c = c} {ty = ty} (a_conditional {a = x} {b = y} _ a b) =
    joined_in ty (own_type c x) (own_type c y) (valued a) (valued b)
valued (a_cast _ is _ _) = ap (λ o. types.Uint (unwrap_or o (2 ^ 64))) is
valued {ty = ty} (an_element_at _ is _ _ _) = ap (valued_in ty) is
valued {ty = ty} (an_element _ is _ _ _ _) = ap (valued_in ty) is
