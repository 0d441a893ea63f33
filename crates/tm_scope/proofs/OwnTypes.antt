-- The own type of what an operator joins.
use Rattle.std.proofs.Common.{◌≡◌, Some, [], ◌∷◌, find, refl, ap, ◌∙◌, if◌then◌else◌}
use Rattle.std.specs.List.{list_any}
use Rattle.std.specs.Option.{option_map}
use Rattle.tm_base.specs.declared.place.Place.{Place}
use Rattle.tm_syntax.specs.declared.design.Ty.TheVariants as types
use Rattle.tm_syntax.specs.declared.tree.EnumDef.{EnumDef}
use Rattle.tm_syntax.specs.declared.tree.Ident.{Ident}
use Rattle.tm_syntax.specs.declared.tree.Spec.{Spec}
use Rattle.tm_syntax.specs.declared.tree.BinaryOperator.{BinaryOperator}
use Rattle.tm_syntax.specs.declared.tree.BinaryOperator.TheVariants.{Equal, NotEqual, Less, LessEqual, Greater, GreaterEqual, Add, Subtract, And, AndAlso, Or, OrElse, Xor}
use Rattle.tm_syntax.specs.Tree.{ExprTree, binary}
use Rattle.tm_syntax.specs.Tree.View.{spec_tree, enum_tree}
use Rattle.tm_syntax.specs.Scopes.Context.{Context}
use Rattle.tm_syntax.specs.Scopes.Names.{is_spelled}
use Rattle.tm_syntax.specs.Scopes.Types.{either_type, own_type, constant_type}
use Rattle.tm_scope.specs.Inner.Operators.{joins_numbers}
use Rattle.tm_scope.proofs.FirstNames.{find-map, option_map-option_map}

pub own_type-binary : (c : Context) (at : Place) (op : BinaryOperator) (a b : ExprTree) →
    own_type c (binary at op a b)
    ≡ (if joins_numbers op then either_type (own_type c a) (own_type c b) else Some types.Bool)
own_type-binary c at Equal a b = refl
own_type-binary c at NotEqual a b = refl
own_type-binary c at Less a b = refl
own_type-binary c at LessEqual a b = refl
own_type-binary c at Greater a b = refl
own_type-binary c at GreaterEqual a b = refl
own_type-binary c at Add a b = refl
own_type-binary c at Subtract a b = refl
own_type-binary c at And a b = refl
own_type-binary c at AndAlso a b = refl
own_type-binary c at Or a b = refl
own_type-binary c at OrElse a b = refl
own_type-binary c at Xor a b = refl

-- the type of a constant is the first enum that has it
pub constant_type-found : (s : Spec) (name : Ident) →
    constant_type (spec_tree s) (name ∷ [])
    ≡ option_map (λ (e : EnumDef). types.Enum e.name.text)
    (find (λ e. list_any (is_spelled name.text) e.constants.items) s.enums.items)
constant_type-found s name =
    ap (option_map (λ e. types.Enum e.name.text))
    (find-map (λ e. list_any (is_spelled name.text) e.constants) enum_tree s.enums.items)
    ∙ option_map-option_map enum_tree (λ e. types.Enum e.name.text)
    (find (λ e. list_any (is_spelled name.text) e.constants.items) s.enums.items)
