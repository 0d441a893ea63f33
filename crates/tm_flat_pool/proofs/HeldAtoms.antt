-- The terms of atoms.
use Rattle.std.proofs.Common.{◌≡◌, ℕ, ◌+◌, ◌<◌, ◌≤◌, Option, None, Some, List, [], ◌∷◌, ◌++◌, map, take, length, slice_get, sym, ap, ◌∙◌, subst, arith}
use Rattle.std.specs.List.{AllByRecursion}
use Rattle.std.specs.Option.{option_map}
use Rattle.std.proofs.lemmas.Option.{slice_get-map}
use Rattle.std.proofs.lemmas.List.{take_all}
use Rattle.tm_base.specs.Arithmetic.{bit}
use Rattle.tm_syntax.specs.declared.design.Design.{Design}
use Rattle.tm_syntax.specs.declared.design.Ty.TheVariants as types
use Rattle.tm_syntax.specs.Tree.View.{expr_tree}
use Rattle.tm_syntax.specs.Design.{DesignTree}
use Rattle.tm_syntax.specs.Design.Atoms.{Atom}
use Rattle.tm_syntax.specs.Design.View.{design_tree}
use Rattle.tm_typing.proofs.Listed.{holds_in, in_get, in_map}
use Rattle.tm_design.specs.Typed.{HasTypeAt}
use Rattle.tm_design.proofs.Contexts.{context_here}
use Rattle.tm_term.specs.declared.term.TermId.{TermId}
use Rattle.tm_term.specs.Table.{Table, IsSound}
use Rattle.tm_term.proofs.Valued.{Extends-trans}
use Rattle.tm_atoms.specs.Atoms.{atom_of}
use Rattle.tm_atoms.specs.declared.atom.AtomAt.{AtomAt}
use Rattle.tm_flat_exprs.specs.Made.{Makes}
use Rattle.tm_flat_exprs.proofs.Later.{Extends-refl, term_along}
use Rattle.tm_flat_states.proofs.Lists.{get_within, map_long}
use Rattle.tm_flat_states.proofs.Numbered.{zip_taken}
use Rattle.tm_flat_states.proofs.StatedTerms.{own_cells}
use Rattle.tm_flat_pool.specs.Truths.{IsTruth}
use Rattle.tm_flat_pool.specs.Inner.Holding.{AreHeld, IsHeld, body_of, held}

-- an atom that is a truth where it stands has the type of bools there
truth_typed : (d : Design) (a : AtomAt) → IsTruth (design_tree d) (atom_of a) →
    HasTypeAt (body_of d a.scope) types.Bool (expr_tree a.expr.now)
truth_typed d a is = record {
  context = is.place;
  stands = sym (context_here (body_of d a.scope) (design_tree d) (own_cells d)) ∙ is.here;
  typed = is.typed;
}

-- so has the one of a number
pub atom_typed : (d : Design) (atoms : List AtomAt) (k : ℕ) (found : Option AtomAt) (a : AtomAt) →
    AllByRecursion (IsTruth (design_tree d)) (map atom_of atoms) → found ≡ slice_get atoms k → found ≡ Some a →
    HasTypeAt (body_of d a.scope) types.Bool (expr_tree a.expr.now)
atom_typed d atoms k found a all told is =
    truth_typed d a
    (holds_in (IsTruth (design_tree d)) (map atom_of atoms) all (in_map atom_of atoms (in_get atoms k (sym told ∙ is))))

-- there is one of each number
pub atom_there : (atoms : List AtomAt) (k : ℕ) (found : Option AtomAt) → k < length atoms →
    found ≡ slice_get atoms k → found ≡ None → ⊥
atom_there atoms k found below told none =
    let here = get_within atoms k below in
    let both : None ≡ Some here.0 = sym none ∙ told ∙ here.1 in cc

-- the one that was found is that of the number
pub one_atom : (atoms : List AtomAt) (k : ℕ) (found : Option AtomAt) (a b : AtomAt) → found ≡ slice_get atoms k →
    found ≡ Some a → slice_get atoms k ≡ Some b → a ≡ b
one_atom atoms k found a b told is there = let both : Some a ≡ Some b = sym is ∙ told ∙ there in cc

-- its term
pub atom_held : (d : DesignTree) (atoms : List AtomAt) (k : ℕ) (found : Option AtomAt) (a : AtomAt) (t n : Table)
    (id : TermId) →
    found ≡ slice_get atoms k → found ≡ Some a →
    Makes t n 1 id (λ u v. bit (held d (atom_of a).scope v (atom_of a).expr)) →
    (b : AtomAt) → slice_get atoms k ≡ Some b →
    Makes t n 1 id (λ u v. bit (held d (atom_of b).scope v (atom_of b).expr))
atom_held d atoms k found a t n id told is made b there =
    subst (λ (x : AtomAt). Makes t n 1 id (λ u v. bit (held d (atom_of x).scope v (atom_of x).expr)))
    (one_atom atoms k found a b told is there) made

-- ---- atoms one behind the other
module _ (d : DesignTree) where
  pub none_held : (t : Table) → IsSound t → (ids : List TermId) → ids ≡ [] → AreHeld d [] t t ids
  none_held t sound ids none =
      subst (AreHeld d [] t t) (sym none) (record { grown = Extends-refl t; sound = sound; each = λ u more. tt })

  pub more_held : (atoms : List AtomAt) (k : ℕ) (t m n : Table) (ids more : List TermId) (id : TermId) →
      k < length atoms → AreHeld d (take k (map atom_of atoms)) t m ids →
      ((a : AtomAt) → slice_get atoms k ≡ Some a →
      Makes m n 1 id (λ u v. bit (held d (atom_of a).scope v (atom_of a).expr))) →
      more ≡ ids ++ id ∷ [] → AreHeld d (take (k + 1) (map atom_of atoms)) t n more
  more_held atoms k t m n ids more id below so_far made pushed =
      let here = get_within atoms k below in
      let a = here.0 in
      let one = made a here.1 in
      let there : slice_get (map atom_of atoms) k ≡ Some (atom_of a) =
      slice_get-map atom_of atoms k ∙ ap (option_map atom_of) here.1 in
      subst (AreHeld d (take (k + 1) (map atom_of atoms)) t n) (sym pushed) (record {
        grown = Extends-trans t m n so_far.grown one.grown;
        sound = one.sound;
        each = λ u later.
            zip_taken (IsHeld d u) (map atom_of atoms) ids k (atom_of a) id
            (so_far.each u (Extends-trans m n u one.grown later)) there (record {
              term = term_along n u 1 id later one.term;
              value = λ v are. one.value u later v are;
            });
      })

  pub all_held : (atoms : List AtomAt) (k : ℕ) (t n : Table) (ids : List TermId) → length atoms ≤ k →
      AreHeld d (take k (map atom_of atoms)) t n ids → AreHeld d (map atom_of atoms) t n ids
  all_held atoms k t n ids past all =
      subst (λ (l : List Atom). AreHeld d l t n ids)
      (take_all k (map atom_of atoms) (let long = map_long atom_of atoms in omega (arith, long, past))) all
