-- Two expressions that an operator joins are valued in one type.
use Rattle.std.proofs.Common.{◌≡◌, ℕ, true, Option, None, Some, [], refl, sym, subst}
use Rattle.tm_syntax.specs.declared.design.Ty.{Ty}
use Rattle.tm_syntax.specs.declared.design.Ty.TheVariants as types
use Rattle.tm_syntax.specs.Tree.{ExprTree}
use Rattle.tm_syntax.specs.Scopes.Context.{Context}
use Rattle.tm_syntax.specs.Scopes.Types.{either_type, valued_in}
use Rattle.tm_syntax.specs.Faults.Literals.{expr_numbers}
use Rattle.tm_syntax.specs.Faults.Operands.{finding, may_be_uint, are_alike, are_comparable}
use Rattle.tm_typing.specs.HasType.{IsSized, Suits, HasType, a_truth, a_number, a_path, a_group, a_negation, a_complement, arithmetic, logic, a_comparison, a_shift, a_conditional, a_cast, an_element_at, an_element}
use Rattle.tm_typing.proofs.Fitting.{contrary, same_types}

-- an expression of which F7 does not hold where its place asks for a type has that type, or its own
abbrev pub Fits : Context → ExprTree → Option Ty → Type 0
Fits c e own = (asked : Ty) → expr_numbers c asked e ≡ [] → Suits own asked → HasType c (valued_in asked own) e

-- the type of an expression has a width that numbers can have
pub is_sized : {c : Context} {ty : Ty} {e : ExprTree} → HasType c ty e → IsSized ty
is_sized a_truth = tt
is_sized (a_number width _ _) = width
is_sized (a_path sized _ _) = sized
is_sized (a_group e) = is_sized e
is_sized (a_negation _) = tt
is_sized (a_complement e) = is_sized e
is_sized (arithmetic _ a _) = is_sized a
is_sized (logic _ _ _) = tt
is_sized (a_comparison _ _ _ _) = tt
is_sized (a_shift e _ _) = is_sized e
is_sized (a_conditional _ a _) = is_sized a
is_sized (a_cast width _ _ _) = width
is_sized (an_element_at sized _ _ _ _) = sized
is_sized (an_element sized _ _ _ _ _) = sized

module _ (c : Context) (a b : ExprTree) (asked : Ty) where
  -- both are valued in the type of the one that has one, or in the one that is asked for
  pub joined : (first second : Option Ty) → Fits c a first → Fits c b second →
      are_alike (finding [] first) (finding [] second) ≡ true →
      expr_numbers c (valued_in asked (either_type first second)) a ≡ [] →
      expr_numbers c (valued_in asked (either_type first second)) b ≡ [] → Suits (either_type first second) asked →
      HasType c (valued_in asked (either_type first second)) a
      × HasType c (valued_in asked (either_type first second)) b
  joined None None fa fb alike na nb suits = (fa asked na suits, fb asked nb suits)
  joined None (Some types.Bool) fa fb alike na nb suits = contrary alike
  joined None (Some (types.Enum _)) fa fb alike na nb suits = contrary alike
  joined None (Some (types.Uint w)) fa fb alike na nb suits =
      let second = fb (types.Uint w) nb tt in (fa (types.Uint w) na (w, is_sized second, refl), second)
  joined (Some types.Bool) None fa fb alike na nb suits = contrary alike
  joined (Some (types.Enum _)) None fa fb alike na nb suits = contrary alike
  joined (Some (types.Uint w)) None fa fb alike na nb suits =
      let first = fa (types.Uint w) na tt in (first, fb (types.Uint w) nb (w, is_sized first, refl))
  joined (Some s) (Some t) fa fb alike na nb suits =
      (fa s na tt, subst (λ ty. HasType c ty b) (sym (same_types s t alike)) (fb s nb tt))

-- of two that are compared one has a type of its own
pub compared : (first second : Option Ty) → are_comparable (finding [] first) (finding [] second) ≡ true →
    (ty : Ty) × (either_type first second ≡ Some ty)
    × (are_alike (finding [] first) (finding [] second) ≡ true)
compared None None e = contrary e
compared None (Some t) e = (t, refl, e)
compared (Some s) None e = (s, refl, e)
compared (Some s) (Some t) e = (s, refl, e)

-- numbers are valued as numbers
pub numeric : (first second : Option Ty) (asked : Ty) → may_be_uint (finding [] first) ≡ true →
    may_be_uint (finding [] second) ≡ true → Suits (either_type first second) asked →
    (w : ℕ) × (valued_in asked (either_type first second) ≡ types.Uint w)
numeric None None asked x y suits = (suits.0, suits.2)
numeric None (Some types.Bool) asked x y suits = contrary y
numeric None (Some (types.Uint w)) asked x y suits = (w, refl)
numeric None (Some (types.Enum _)) asked x y suits = contrary y
numeric (Some types.Bool) second asked x y suits = contrary x
numeric (Some (types.Uint w)) second asked x y suits = (w, refl)
numeric (Some (types.Enum _)) second asked x y suits = contrary x

-- one that may be a number is valued as one
pub numeric_alone : (own : Option Ty) (asked : Ty) → may_be_uint (finding [] own) ≡ true → Suits own asked →
    (w : ℕ) × (valued_in asked own ≡ types.Uint w)
numeric_alone None asked e suits = (suits.0, suits.2)
numeric_alone (Some types.Bool) asked e suits = contrary e
numeric_alone (Some (types.Uint w)) asked e suits = (w, refl)
numeric_alone (Some (types.Enum _)) asked e suits = contrary e

-- what has a type of its own suits every place
pub suits_any : (own : Option Ty) (ty asked : Ty) → own ≡ Some ty → Suits own asked
suits_any None ty asked e = absurd cc
suits_any (Some _) ty asked e = tt
