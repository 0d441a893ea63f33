-- The atoms of expressions, by those of their parts.
use Rattle.std.proofs.Common.{◌≡◌, ℕ, Bool, true, false, cond, not, Option, List, [], ◌∷◌, ◌++◌, refl, sym, ap, ◌∙◌, subst}
use Rattle.std.specs.List.{AllByRecursion}
use Rattle.tm_base.specs.declared.place.Place.{Place}
use Rattle.tm_syntax.specs.declared.tree.Ident.{Ident}
use Rattle.tm_syntax.specs.declared.tree.BinaryOperator.{BinaryOperator}
use Rattle.tm_syntax.specs.declared.tree.BinaryOperator.TheVariants as operator
use Rattle.tm_syntax.specs.declared.design.Ty.{Ty}
use Rattle.tm_syntax.specs.Tree.{ExprTree, path, binary, element}
use Rattle.tm_syntax.specs.Scopes.Types.{either_type}
use Rattle.tm_syntax.specs.Design.{DesignTree}
use Rattle.tm_syntax.specs.Design.Atoms.{Atom, compares_bools, equality_atoms, expr_atoms, operator_atoms, resolved_atom}
use Rattle.tm_syntax.specs.Design.Scope.{Scope, type_in}
use Rattle.tm_atoms.specs.declared.atom.AtomAt.{AtomAt}
use Rattle.tm_atoms.specs.Atoms.{atom_of}
use Rattle.tm_atoms.specs.Inner.Numbers.{IsGrown, IsNumber, NumberTables}
use Rattle.tm_atoms.specs.Inner.Pools.{Adds, PoolTables, is_whole}
use Rattle.tm_atoms.proofs.Numbered.{number-grown}
use Rattle.tm_atoms.proofs.Pools.{adds-then}

-- an operator has itself as its atom, or those of its operands
operator-atoms : (o : BinaryOperator) (ty : Option Ty) (whole : Atom) (within : List Atom) →
    operator_atoms o ty whole within ≡ cond (is_whole o ty) (whole ∷ []) within
operator-atoms operator.AndAlso ty whole within = refl
operator-atoms operator.OrElse ty whole within = refl
operator-atoms operator.Equal ty whole within = by (compares_bools ty)
  where
    by : (b : Bool) → equality_atoms b whole within ≡ cond (not b) (whole ∷ []) within
    by true = refl
    by false = refl
operator-atoms operator.NotEqual ty whole within = by (compares_bools ty)
  where
    by : (b : Bool) → equality_atoms b whole within ≡ cond (not b) (whole ∷ []) within
    by true = refl
    by false = refl
operator-atoms _ ty whole within = refl

module _ (d : DesignTree) (scope : Scope) (t : ExprTree) where
  pub path-atoms : (names : List Ident) → t ≡ path names →
      expr_atoms d scope t ≡ record { scope = scope; expr = t } ∷ []
  path-atoms names is =
      ap (expr_atoms d scope) is ∙ ap (λ (t : ExprTree). record { scope = scope; expr = t } ∷ []) (sym is)

  pub element-atoms : (names : List Ident) (e : ExprTree) → t ≡ element names e →
      expr_atoms d scope t ≡ record { scope = scope; expr = t } ∷ []
  element-atoms names e is =
      ap (expr_atoms d scope) is ∙ ap (λ (t : ExprTree). record { scope = scope; expr = t } ∷ []) (sym is)

  module _ (at : Place) (op : BinaryOperator) (a b : ExprTree) (is : t ≡ binary at op a b) where
    binary-atoms : expr_atoms d scope t
        ≡ cond (is_whole op (either_type (type_in d scope a) (type_in d scope b)))
        (record { scope = scope; expr = t } ∷ []) (expr_atoms d scope a ++ expr_atoms d scope b)
    binary-atoms =
        ap (expr_atoms d scope) is
        ∙ operator-atoms op (either_type (type_in d scope a) (type_in d scope b))
        (record { scope = scope; expr = binary at op a b }) (expr_atoms d scope a ++ expr_atoms d scope b)
        ∙ ap (λ (t : ExprTree). cond (is_whole op (either_type (type_in d scope a) (type_in d scope b)))
        (record { scope = scope; expr = t } ∷ []) (expr_atoms d scope a ++ expr_atoms d scope b)) (sym is)

    pub whole-atoms : (w : Bool) → w ≡ is_whole op (either_type (type_in d scope a) (type_in d scope b)) → w ≡ true →
        expr_atoms d scope t ≡ record { scope = scope; expr = t } ∷ []
    whole-atoms w says true' =
        binary-atoms ∙ ap (λ c. cond c (record { scope = scope; expr = t } ∷ [])
        (expr_atoms d scope a ++ expr_atoms d scope b)) (sym says ∙ true')

    pub within-atoms : (w : Bool) → w ≡ is_whole op (either_type (type_in d scope a) (type_in d scope b)) → w ≡ false →
        expr_atoms d scope t ≡ expr_atoms d scope a ++ expr_atoms d scope b
    within-atoms w says false' =
        binary-atoms ∙ ap (λ c. cond c (record { scope = scope; expr = t } ∷ [])
        (expr_atoms d scope a ++ expr_atoms d scope b)) (sym says ∙ false')

module _ (d : DesignTree) where
  -- atoms that are added, by another list that they are
  pub adds-by : (p q : PoolTables) (xs ys : List Atom) → ys ≡ xs → Adds d p q xs → Adds d p q ys
  adds-by p q xs ys is adds = subst (λ zs. Adds d p q zs) (sym is) adds

  -- those of three parts, one behind the other
  pub adds-three : (p q r s : PoolTables) (xs ys zs : List Atom) → Adds d p q xs → Adds d q r ys → Adds d r s zs →
      Adds d p s (xs ++ ys ++ zs)
  adds-three p q r s xs ys zs first second third =
      adds-then d p r s (xs ++ ys) zs (adds-then d p q r xs ys first second) third

  -- entries stay numbered where the table grows
  all-grown : (t u : NumberTables) → IsGrown t u → (es : List (ℕ × AtomAt)) →
      AllByRecursion (λ e. IsNumber t e.0 (resolved_atom d (atom_of e.1))) es →
      AllByRecursion (λ e. IsNumber u e.0 (resolved_atom d (atom_of e.1))) es
  all-grown t u grown [] all = tt
  all-grown t u grown (e ∷ es) all = (number-grown t u grown all.0, all-grown t u grown es all.1)

  -- an atom that is added after it was resolved
  pub adds-resolved : (p q : PoolTables) (t : NumberTables) (atoms : List Atom) → IsGrown p.numbers t →
      Adds d (record { numbers = t; atoms = p.atoms }) q atoms → Adds d p q atoms
  adds-resolved p q t atoms grown adds = λ numbered.
      let added = adds (all-grown p.numbers t grown p.atoms numbered) in
      record { numbered = added.numbered; are = added.are }
