-- Which state variables are marked.
use Rattle.std.proofs.Common.{◌≡◌, ℕ, ◌+◌, ◌<◌, ◌≤◌, ◌==◌, Bool, true, false, Option, None, Some, List, [], length, length-set, map, replicate, take, slice_get, get_or-set_other, get_or-set_same, eqb-true, eq-eqb, refl, sym, ap, ◌∙◌, subst, arith, true≢false}
use Rattle.std.specs.Prelude.{◌||◌, slice_index_or, slice_set}
use Rattle.std.specs.List.{list_any}
use Rattle.std.specs.Option.{option_map, option_map_or}
use Rattle.std.proofs.lemmas.Bool.{or_right}
use Rattle.std.proofs.lemmas.List.{get_or-replicate, take_all}
use Rattle.std.proofs.lemmas.List.Folds.{list_any_more}
use Rattle.std.proofs.lemmas.Option.{get_or_from_slice_get, slice_get-map, slice_get_within}
use Rattle.tm_syntax.specs.Design.{DesignTree}
use Rattle.tm_syntax.specs.Design.Atoms.{Atom, resolved_atom}
use Rattle.tm_atoms.specs.Atoms.{atom_of}
use Rattle.tm_atoms.specs.declared.atom.AtomAt.{AtomAt}
use Rattle.tm_flat_states.proofs.Lists.{get_within, map_long, replicate_long}
use Rattle.tm_flat_pool.specs.Inner.Marks.{AreMarked, is_variable, variable_in}

or_false : (b : Bool) → b ≡ (b || false)
or_false true = refl
or_false false = refl

-- a mark that is set
set_mark : (marks : List Bool) (n v : ℕ) → v < length marks →
    slice_index_or (slice_set marks n true) v false ≡ (slice_index_or marks v false || n == v)
set_mark marks n v below = by (n == v) refl
  where
    by : (t : Bool) → (n == v) ≡ t →
        slice_index_or (slice_set marks n true) v false ≡ (slice_index_or marks v false || n == v)
    by true is =
        let same = eqb-true n v is in
        ap (λ k. slice_index_or (slice_set marks n true) k false) (sym same)
        ∙ get_or-set_same marks n true false (omega (arith, same, below))
        ∙ sym (or_right (slice_index_or marks v false) (n == v) is)
    by false is =
        get_or-set_other marks n v true false (λ same. true≢false (sym (eq-eqb n v (sym same)) ∙ is))
        ∙ or_false (slice_index_or marks v false)
        ∙ ap (λ t. slice_index_or marks v false || t) (sym is)

-- marks with one more that may be wanting
abbrev with_mark : List Bool → Option ℕ → List Bool
with_mark marks o = option_map_or (λ n. slice_set marks n true) o marks

marks_long : (marks : List Bool) (o : Option ℕ) → length (with_mark marks o) ≡ length marks
marks_long marks None = refl
marks_long marks (Some n) = length-set marks n true

mark_told : (marks : List Bool) (o : Option ℕ) (v : ℕ) → v < length marks →
    slice_index_or (with_mark marks o) v false
    ≡ (slice_index_or marks v false || option_map_or (λ k. k == v) o false)
mark_told marks None v below = or_false (slice_index_or marks v false)
mark_told marks (Some n) v below = set_mark marks n v below

any_taken : {X : Type 0} (p : X → Bool) (xs : List X) (k : ℕ) (x : X) → slice_get xs k ≡ Some x →
    list_any p (take (k + 1) xs) ≡ (list_any p (take k xs) || p x)
any_taken p xs k x is =
    list_any_more p xs k x (slice_get_within xs k x is)
    ∙ ap (λ y. list_any p (take k xs) || p y) (get_or_from_slice_get xs k x x is)

module _ (d : DesignTree) where
  pub none_marked : (marks : List Bool) (count : ℕ) → marks ≡ replicate count false → count ≡ length d.vars →
      AreMarked d [] marks
  none_marked marks count none many = subst (AreMarked d []) (sym none) (record {
    as_many = replicate_long {X = Bool} count false ∙ many;
    each = λ v below. get_or-replicate count v false false (omega (arith, many, below));
  })

  pub more_marked : (atoms : List AtomAt) (k : ℕ) (marks new : List Bool) (o : Option ℕ) → k < length atoms →
      AreMarked d (take k (map atom_of atoms)) marks →
      ((a : AtomAt) → slice_get atoms k ≡ Some a → o ≡ variable_in (resolved_atom d (atom_of a))) →
      new ≡ option_map_or (λ n. slice_set marks n true) o marks → AreMarked d (take (k + 1) (map atom_of atoms)) new
  more_marked atoms k marks new o below so_far found is =
      let here = get_within atoms k below in
      let a = here.0 in
      let there : slice_get (map atom_of atoms) k ≡ Some (atom_of a) =
      slice_get-map atom_of atoms k ∙ ap (option_map atom_of) here.1 in
      subst (AreMarked d (take (k + 1) (map atom_of atoms))) (sym is) (record {
        as_many = marks_long marks o ∙ so_far.as_many;
        each = λ v inside.
            let within : v < length marks = (let many = so_far.as_many in omega (arith, many, inside)) in
            mark_told marks o v within
            ∙ (λ i. so_far.each v inside i || option_map_or (λ k. k == v) (found a here.1 i) false)
            ∙ sym (any_taken (is_variable d v) (map atom_of atoms) k (atom_of a) there);
      })

  pub all_marked : (atoms : List AtomAt) (k : ℕ) (marks : List Bool) → length atoms ≤ k →
      AreMarked d (take k (map atom_of atoms)) marks → AreMarked d (map atom_of atoms) marks
  all_marked atoms k marks past all =
      subst (λ (l : List Atom). AreMarked d l marks)
      (take_all k (map atom_of atoms) (let long = map_long atom_of atoms in omega (arith, long, past))) all
