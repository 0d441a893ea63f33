-- The types of two small sums.
use Rattle.std.proofs.Common.{◌≡◌, ℕ, ◌^◌, ◌<◌, Some, List, [], ◌∷◌, refl, sym, ap, ◌∙◌, subst, arith}
use Rattle.std.specs.Prelude.{codes}
use Rattle.tm_base.specs.declared.place.Place.{Place}
use Rattle.tm_syntax.specs.declared.tree.Ident.{Ident}
use Rattle.tm_syntax.specs.declared.tree.Num.{Num}
use Rattle.tm_syntax.specs.declared.tree.BinaryOperator.TheVariants.{Add}
use Rattle.tm_syntax.specs.declared.design.Ty.{Ty}
use Rattle.tm_syntax.specs.declared.design.Ty.TheVariants as types
use Rattle.tm_syntax.specs.Tree.{ExprTree, number, path, binary}
use Rattle.tm_syntax.specs.Examples.{at, name_at, num_at}
use Rattle.tm_syntax.specs.Scopes.Context.{Context}
use Rattle.tm_syntax.specs.Scopes.Types.{own_type}
use Rattle.tm_syntax.specs.Design.Sizes.{width}
use Rattle.tm_typing.specs.Examples.{counting, x_plus}
use Rattle.tm_typing.specs.HasType.{IsWidth, IsValueOf, adds, HasType, a_number, a_path, arithmetic, logic, a_comparison}
use Rattle.tm_typing.proofs.Listed.{one_thing}

-- the sum fits two bits
pub three_fits : HasType counting (types.Uint 2) (x_plus 3)
three_fits =
    let two : IsWidth 2 = record { low = omega arith; high = omega arith } in
    arithmetic adds (a_path two refl refl) (a_number two refl (omega arith))

-- a sum has a type of numbers, and so have both of its parts
sum_parts : (c : Context) (ty : Ty) (place : Place) (a b : ExprTree) → HasType c ty (binary place Add a b) →
    (w : ℕ) × (ty ≡ types.Uint w) × HasType c (types.Uint w) a × HasType c (types.Uint w) b
sum_parts c _ place a b (arithmetic {width = w} _ x y) = (w, refl, x, y)
sum_parts c _ place a b (logic op _ _) = elim op [ ]
sum_parts c _ place a b (a_comparison op _ _ _) = elim op [ ]

-- a path has its own type alone
path_type : (c : Context) (ty : Ty) (names : List Ident) → HasType c ty (path names) →
    own_type c (path names) ≡ Some ty
path_type c ty names (a_path _ _ own) = own

-- a number of a type is below its bound
number_fits : (c : Context) (w : ℕ) (n : Num) → HasType c (types.Uint w) (number n) →
    (v : ℕ) × IsValueOf n v × (v < 2 ^ w)
number_fits c w n (a_number {v = v} _ is below) = (v, is, below)

-- `x` has two bits
two_bits : (w : ℕ) → HasType counting (types.Uint w) (path (name_at (codes "x") 3 1 ∷ [])) → 2 ≡ w
two_bits w has =
    let same : types.Uint 2 ≡ types.Uint w =
    one_thing refl (path_type counting (types.Uint w) (name_at (codes "x") 3 1 ∷ []) has) in
    ap width same

pub one_type : (ty : Ty) → HasType counting ty (x_plus 3) → ty ≡ types.Uint 2
one_type ty has =
    let parts = sum_parts counting ty (at 3 3) (path (name_at (codes "x") 3 1 ∷ [])) (number (num_at 3 3 5)) has in
    parts.1 ∙ ap types.Uint (sym (two_bits parts.0 parts.2))

pub four_does_not : (ty : Ty) → HasType counting ty (x_plus 4) → ⊥
four_does_not ty has =
    let parts = sum_parts counting ty (at 3 3) (path (name_at (codes "x") 3 1 ∷ [])) (number (num_at 4 3 5)) has in
    let bound = number_fits counting parts.0 (num_at 4 3 5) parts.3 in
    let value : 4 ≡ bound.0 = one_thing refl bound.1 in
    let below : bound.0 < 4 = subst (λ w. bound.0 < 2 ^ w) (sym (two_bits parts.0 parts.2)) bound.2 in
    omega arith
