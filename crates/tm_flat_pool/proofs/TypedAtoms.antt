-- The atoms of a truth are truths.
use Rattle.std.proofs.Common.{◌≡◌, Option, Some, List, [], ◌∷◌, ◌++◌, refl, sym, ap, ◌∙◌, subst}
use Rattle.std.specs.List.{AllByRecursion}
use Rattle.std.specs.Option.{option_and_then}
use Rattle.tm_syntax.specs.declared.tree.BinaryOperator.{BinaryOperator}
use Rattle.tm_syntax.specs.declared.design.Ty.{Ty}
use Rattle.tm_syntax.specs.declared.design.Ty.TheVariants as types
use Rattle.tm_syntax.specs.Tree.{ExprTree, binary, cast, conditional, element, group, number, path, shift, truth, unary}
use Rattle.tm_syntax.specs.Scopes.Context.{Context}
use Rattle.tm_syntax.specs.Scopes.Types.{either_type, own_type}
use Rattle.tm_syntax.specs.Design.{DesignTree}
use Rattle.tm_syntax.specs.Design.Atoms.{Atom, compares_bools, equality_atoms, expr_atoms, operator_atoms}
use Rattle.tm_syntax.specs.Design.Scope.{Scope, context, type_in}
use Rattle.tm_typing.specs.HasType.{HasType, Compares, IsLogical, a_comparison, a_conditional, a_group, a_negation, and_also, differs, equals, is_at_least, is_at_most, is_greater, is_less, logic, or_else}
use Rattle.tm_flat_pool.specs.Truths.{IsTruth}

-- all of two lists
pub all_join : {A : Type 0} (P : A → Type 0) (xs ys : List A) → AllByRecursion P xs → AllByRecursion P ys →
    AllByRecursion P (xs ++ ys)
all_join P [] ys first second = second
all_join P (x ∷ xs) ys first second = (first.0, all_join P xs ys first.1 second)

module _ (d : DesignTree) (scope : Scope) (c : Context) (here : context d scope ≡ Some c) where
  abbrev AreTruths : List Atom → Type 0
  AreTruths atoms = AllByRecursion (IsTruth d) atoms

  -- an expression that is a truth is an atom that is one
  itself : (e : ExprTree) → HasType c types.Bool e → IsTruth d (record { scope = scope; expr = e })
  itself e typed = record { place = c; here = here; typed = typed }

  type_here : (e : ExprTree) → type_in d scope e ≡ own_type c e
  type_here e = ap (λ (k : Option Context). option_and_then (λ k. own_type k e) k) here

  types_here : (a b : ExprTree) → either_type (type_in d scope a) (type_in d scope b) ≡
      either_type (own_type c a) (own_type c b)
  types_here a b = (λ i. either_type (type_here a i) (type_here b i))

  -- a comparison of bools has the atoms of its sides, and another one is an atom
  compared : (ty : Ty) (whole : Atom) (first second : List Atom) → IsTruth d whole →
      (ty ≡ types.Bool → AreTruths first) → (ty ≡ types.Bool → AreTruths second) →
      AreTruths (equality_atoms (compares_bools (Some ty)) whole (first ++ second))
  compared types.Bool whole first second is one other = all_join (IsTruth d) first second (one refl) (other refl)
  compared (types.Uint n) whole first second is one other = (is, tt)
  compared (types.Enum n) whole first second is one other = (is, tt)

  comparison : (ty : Ty) (op : BinaryOperator) → Compares ty op → (whole : Atom) (first second : List Atom) →
      IsTruth d whole → (ty ≡ types.Bool → AreTruths first) → (ty ≡ types.Bool → AreTruths second) →
      AreTruths (operator_atoms op (Some ty) whole (first ++ second))
  comparison ty _ equals whole first second is one other = compared ty whole first second is one other
  comparison ty _ differs whole first second is one other = compared ty whole first second is one other
  comparison ty _ is_less whole first second is one other = (is, tt)
  comparison ty _ is_at_most whole first second is one other = (is, tt)
  comparison ty _ is_greater whole first second is one other = (is, tt)
  comparison ty _ is_at_least whole first second is one other = (is, tt)

  joined : (op : BinaryOperator) (ty : Option Ty) → IsLogical op → (whole : Atom) (first second : List Atom) →
      AreTruths first → AreTruths second → AreTruths (operator_atoms op ty whole (first ++ second))
  joined _ ty and_also whole first second one other = all_join (IsTruth d) first second one other
  joined _ ty or_else whole first second one other = all_join (IsTruth d) first second one other

  pub atoms_are_truths : (e : ExprTree) → HasType c types.Bool e → AreTruths (expr_atoms d scope e)
  atoms_are_truths (truth _ _) typed = tt
  atoms_are_truths (path names) typed = (itself (path names) typed, tt)
  atoms_are_truths (element names e) typed = (itself (element names e) typed, tt)
  atoms_are_truths (number _) typed = tt
  atoms_are_truths (shift _ _ _ _) typed = tt
  atoms_are_truths (cast _ _ _) typed = tt
  atoms_are_truths (group _ e) (a_group typed) = atoms_are_truths e typed
  atoms_are_truths (unary _ _ e) (a_negation typed) = atoms_are_truths e typed
  atoms_are_truths (conditional _ e a b) (a_conditional test first second) =
      all_join (IsTruth d) (expr_atoms d scope e ++ expr_atoms d scope a) (expr_atoms d scope b)
      (all_join (IsTruth d) (expr_atoms d scope e) (expr_atoms d scope a) (atoms_are_truths e test)
      (atoms_are_truths a first)) (atoms_are_truths b second)
  atoms_are_truths (binary at op a b) (logic of first second) =
      joined op (either_type (type_in d scope a) (type_in d scope b)) of
      (record { scope = scope; expr = binary at op a b }) (expr_atoms d scope a) (expr_atoms d scope b)
      (atoms_are_truths a first) (atoms_are_truths b second)
  atoms_are_truths (binary at op a b) (a_comparison {ty = ty} of is first second) =
      subst (λ (k : Option Ty). AreTruths (operator_atoms op k (record { scope = scope; expr = binary at op a b })
      (expr_atoms d scope a ++ expr_atoms d scope b))) (sym (types_here a b ∙ is))
      (comparison ty op of (record { scope = scope; expr = binary at op a b }) (expr_atoms d scope a)
      (expr_atoms d scope b) (itself (binary at op a b) (a_comparison of is first second))
      (λ same. atoms_are_truths a (subst (λ (k : Ty). HasType c k a) same first))
      (λ same. atoms_are_truths b (subst (λ (k : Ty). HasType c k b) same second)))
