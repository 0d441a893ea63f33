-- The pool of a design tells its valid states apart: each of their bits is in it, or is all of a bool variable that is
-- an atom of it.
use Rattle.std.proofs.Common.{◌≡◌, ℕ, zero, suc, ◌+◌, ◌-◌, ◌<◌, ◌≤◌, ◌==◌, Bool, true, false, not, Option, None, Some, List, [], ◌∷◌, ◌++◌, length, map, take, slice_get, slice_index, refl, sym, ap, ◌∙◌, subst, arith, true≢false, eqb-true}
use Rattle.std.specs.Prelude.{◌&&◌, slice_index_or, sum}
use Rattle.std.specs.Option.{option_map_or}
use Rattle.std.specs.List.{AllZip, range_with_len}
use Rattle.std.proofs.lemmas.Bool.{and_parts}
use Rattle.std.proofs.lemmas.List.{get_or_append_left, length-append}
use Rattle.std.proofs.lemmas.List.FromFn.{length-range_with_len}
use Rattle.std.proofs.lemmas.Option.{slice_get_within}
use Rattle.std.proofs.lemmas.Slice.Zip.{AllZip-long}
use Rattle.tm_syntax.specs.declared.design.Ty.{Ty}
use Rattle.tm_syntax.specs.declared.design.Ty.TheVariants as types
use Rattle.tm_syntax.specs.declared.design.Var.{Var}
use Rattle.tm_syntax.specs.Tree.{SpecTree}
use Rattle.tm_syntax.specs.Design.{DesignTree}
use Rattle.tm_syntax.specs.Design.Atoms.{Atom, Resolved, a_variable, pool_atoms, resolved_atom}
use Rattle.tm_syntax.specs.Design.Locations.{end_number}
use Rattle.tm_syntax.specs.Design.Sizes.{type_bits, type_size}
use Rattle.tm_sem.specs.State.{StateData}
use Rattle.tm_sem.specs.StateBits.{state_bits, state_numbers, state_widths}
use Rattle.tm_sem.specs.Step.{IsState, memory_of}
use Rattle.tm_flat_pool.specs.Cells.{SameCell}
use Rattle.tm_game_pool.specs.Separating.{Separates}
use Rattle.tm_flat_pool.specs.Predicates.{of_atom, of_bit, first_place, is_atom, is_bit, is_bit_of, is_bool, pool, pool_places, predicate_holds}
use Rattle.tm_flat.specs.Inputs.{AreSmall}
use Rattle.tm_game_pool.proofs.Atoms.{variable_holds}
use Rattle.tm_flat_pool.proofs.Places.{bit_there, is_set}
use Rattle.tm_flat_pool.proofs.StateWidths.{variable_width, widths_long}
use Rattle.tm_typing.proofs.Listed.{In, in_behind, in_filter, in_front, in_map}
use Rattle.tm_game_pool.proofs.Lists.{agreeing, all_in, in_range, one_passes}
use Rattle.tm_game_pool.proofs.OneState.{bits_counted, same_bits}

-- ---- a bool variable
bool_width : (spec : SpecTree) (ty : Ty) → is_bool ty ≡ true → type_bits spec ty ≡ 1
bool_width spec types.Bool is = refl
bool_width spec (types.Uint w) is = absurd (cc)
bool_width spec (types.Enum name) is = absurd (cc)

bool_size : (spec : SpecTree) (ty : Ty) → is_bool ty ≡ true → type_size spec ty ≡ 2
bool_size spec types.Bool is = refl
bool_size spec (types.Uint w) is = absurd (cc)
bool_size spec (types.Enum name) is = absurd (cc)

from_not : (y : Bool) → not (0 == 0) ≡ not y → true ≡ y
from_not true same = refl
from_not false same = absurd (true≢false (sym same))

-- numbers below 2 that are 0 together are one
same_number : (a b : ℕ) → a < 2 → b < 2 → not (a == 0) ≡ not (b == 0) → a ≡ b
same_number zero zero one other same = refl
same_number zero (suc b) one other same = by (suc b == 0) refl (from_not (suc b == 0) same)
  where
    by : (y : Bool) → (suc b == 0) ≡ y → true ≡ y → zero ≡ suc b
    by true is same = sym (eqb-true (suc b) 0 is)
    by false is same = absurd (true≢false same)
same_number (suc a) zero one other same = by (suc a == 0) refl (from_not (suc a == 0) (sym same))
  where
    by : (y : Bool) → (suc a == 0) ≡ y → true ≡ y → suc a ≡ zero
    by true is same = eqb-true (suc a) 0 is
    by false is same = absurd (true≢false same)
same_number (suc a) (suc b) one other same = omega (arith, one, other)

-- what goes along with an item of two lists
zip_there : {X : Type 0} (R : X → ℕ → Type 0) (xs : List X) (ns : List ℕ) → AllZip R xs ns → (k : ℕ) (x : X) →
    slice_get xs k ≡ Some x → R x (slice_index ns k)
zip_there R [] ns all k x there = absurd (cc)
zip_there R (y ∷ xs) [] all k x there = absurd all
zip_there R (y ∷ xs) (n ∷ ns) all zero x there =
    let same : y ≡ x = cc in subst (λ z. R z n) same all.0
zip_there R (y ∷ xs) (n ∷ ns) all (suc k) x there = zip_there R xs ns all.1 k x there

module _ (d : DesignTree) where
  -- the variable whose bit is a resolved expression
  bit_variable : (place : ℕ) (r : Resolved) → is_bit d place r ≡ true →
      (v : ℕ) × (r ≡ a_variable v) × (is_bit_of d place v ≡ true)
  bit_variable place (a_variable v) is = (v, refl, is)
  bit_variable place _ is = absurd (true≢false (sym is))

  -- a bool variable, whose bit has this place
  bool_there : (place v : ℕ) → is_bit_of d place v ≡ true →
      (var : Var) × (slice_get d.vars v ≡ Some var) × (is_bool var.ty ≡ true) × (first_place d v ≡ place)
  bool_there place v is = by (slice_get d.vars v) refl is
    where
      by : (o : Option Var) → slice_get d.vars v ≡ o →
          option_map_or (λ (var : Var). is_bool var.ty && first_place d v == place) o false ≡ true →
          (var : Var) × (slice_get d.vars v ≡ Some var) × (is_bool var.ty ≡ true) × (first_place d v ≡ place)
      by None there is = absurd (cc)
      by (Some var) there is =
          let both = and_parts (is_bool var.ty) (first_place d v == place) is in
          (var, there, both.0, eqb-true (first_place d v) place both.1)

  -- ---- one state
  module _ (s : StateData) (valid : IsState d s) where
    values_long : length s.values ≡ length d.vars
    values_long = AllZip-long (λ (v : Var) n. n < type_size d.spec v.ty) d.vars s.values valid.values

    places_long : length s.places ≡ length d.processes
    places_long =
        AllZip-long (λ p k. k ≤ end_number d p) (range_with_len 0 (length d.processes)) s.places valid.places
        ∙ length-range_with_len 0 (length d.processes)

    numbers_long : length (state_numbers s) ≡ length (state_widths d)
    numbers_long =
        omega (
          arith,
          values_long,
          places_long,
          length-append (s.values ++ s.places) (s.last ∷ []),
          length-append s.values s.places,
          widths_long d,
        )

    bool_below : (v : ℕ) (var : Var) → slice_get d.vars v ≡ Some var → is_bool var.ty ≡ true →
        slice_index s.values v < 2
    bool_below v var there is =
        let below = zip_there (λ (v : Var) n. n < type_size d.spec v.ty) d.vars s.values valid.values v var there in
        subst (λ n. slice_index s.values v < n) (bool_size d.spec var.ty is) below

    -- the bit of a bool variable is told by its value
    bool_bit : (v : ℕ) (var : Var) → slice_get d.vars v ≡ Some var → is_bool var.ty ≡ true →
        slice_index_or (state_bits d s) (first_place d v) false ≡ is_set (slice_index s.values v) 0
    bool_bit v var there is =
        let within = slice_get_within d.vars v var there in
        let one = variable_width d v var there ∙ bool_width d.spec var.ty is in
        let long = numbers_long in
        let many = values_long in
        let here : first_place d v ≡ sum (take v (state_widths d)) + 0 = omega arith in
        let weight : slice_index (state_widths d) v - 1 - 0 ≡ 0 = omega (arith, one) in
        let front : slice_index (state_numbers s) v ≡ slice_index s.values v =
        get_or_append_left (s.values ++ s.places) (s.last ∷ []) 0 v
        (omega (arith, within, many, length-append s.values s.places))
        ∙ get_or_append_left s.values s.places 0 v (omega (arith, within, many)) in
        ap (λ k. slice_index_or (state_bits d s) k false) here
        ∙ bit_there (state_widths d) (state_numbers s) v 0 long
        (omega (
          arith,
          within,
          many,
          long,
          length-append (s.values ++ s.places) (s.last ∷ []),
          length-append s.values s.places,
        )) (omega (arith, one))
        ∙ (λ i. is_set (front i) (weight i))

  -- ---- two states
  module _ (small : AreSmall d) (s t : StateData) (first : IsState d s) (second : IsState d t)
      (alike : SameCell d (pool d) s t) where
    -- a bool variable that is an atom has one value
    atom_agrees : (a : Atom) → In a (pool_atoms d) → (v : ℕ) → resolved_atom d a ≡ a_variable v → (var : Var) →
        slice_get d.vars v ≡ Some var → is_bool var.ty ≡ true → slice_index s.values v ≡ slice_index t.values v
    atom_agrees a inside v is var there bool =
        let one = all_in (λ p. predicate_holds d s p ≡ predicate_holds d t p) (pool d) alike
        (in_front (map of_atom (pool_atoms d)) (map of_bit (pool_places d))
        (in_map of_atom (pool_atoms d) inside)) in
        same_number (slice_index s.values v) (slice_index t.values v) (bool_below s first v var there bool)
        (bool_below t second v var there bool)
        (sym (variable_holds d a.scope (memory_of s) v a.expr is)
        ∙ one
        ∙ variable_holds d a.scope (memory_of t) v a.expr is)

    bit_agrees : (q : ℕ) → q < sum (state_widths d) →
        slice_index_or (state_bits d s) q false ≡ slice_index_or (state_bits d t) q false
    bit_agrees q below = by (is_atom d q) refl
      where
        by : (b : Bool) → is_atom d q ≡ b →
            slice_index_or (state_bits d s) q false ≡ slice_index_or (state_bits d t) q false
        by false is =
            all_in (λ p. predicate_holds d s p ≡ predicate_holds d t p) (pool d) alike
            (in_behind (map of_atom (pool_atoms d)) (map of_bit (pool_places d))
            (in_map of_bit (pool_places d)
            (in_filter (λ place. not (is_atom d place)) (range_with_len 0 (sum (state_widths d)))
            (in_range 0 (sum (state_widths d)) q (omega arith) (omega (arith, below))) (ap not is))))
        by true is =
            let found = one_passes (λ a. is_bit d q (resolved_atom d a)) (pool_atoms d) is in
            let of = bit_variable q (resolved_atom d found.0) found.2 in
            let at = bool_there q of.0 of.2 in
            let same = atom_agrees found.0 found.1 of.0 of.1 at.0 at.1 at.2 in
            ap (λ k. slice_index_or (state_bits d s) k false) (sym at.3)
            ∙ bool_bit s first of.0 at.0 at.1 at.2
            ∙ ap (λ n. is_set n 0) same
            ∙ sym (bool_bit t second of.0 at.0 at.1 at.2)
            ∙ ap (λ k. slice_index_or (state_bits d t) k false) at.3

    pub one_state : s ≡ t
    one_state =
        let here = bits_counted d small s first in
        let there = bits_counted d small t second in
        same_bits d small s t first second (agreeing (state_bits d s) (state_bits d t) (here ∙ sym there)
        (λ q below. bit_agrees q (omega (arith, below, here))))

-- the pool of a design of small numbers separates its valid states
pub pool_separates : (d : DesignTree) → AreSmall d → Separates d (pool d)
pool_separates d small s t first second alike = one_state d small s t first second alike

-- an atom that is a state variable holds exactly where the variable is not 0
pub atom_holds : (d : DesignTree) (a : Atom) (v : ℕ) (s : StateData) → resolved_atom d a ≡ a_variable v →
    predicate_holds d s (of_atom a) ≡ not (slice_index s.values v == 0)
atom_holds d a v s is = variable_holds d a.scope (memory_of s) v a.expr is
