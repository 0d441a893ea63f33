-- Which bits of a state are atoms.
use Rattle.std.proofs.Common.{◌≡◌, ◌⊎◌, inl, inr, ℕ, ◌+◌, ◌<◌, ◌≤◌, ◌==◌, Bool, true, false, Option, None, Some, List, [], ◌∷◌, slice_get, slice_index, refl, sym, ap, ◌∙◌, subst, arith, true≢false, eqb-true, eq-eqb}
use Rattle.std.specs.Prelude.{◌&&◌, ◌||◌, slice_index_or}
use Rattle.std.specs.List.{list_any}
use Rattle.std.specs.Option.{option_map_or}
use Rattle.std.proofs.lemmas.Bool.{and_from, and_parts, cases_lt}
use Rattle.std.proofs.lemmas.Option.{get_or_from_slice_get, none-some, slice_get_within}
use Rattle.tm_syntax.specs.declared.design.Ty.{Ty}
use Rattle.tm_syntax.specs.declared.design.Ty.TheVariants as types
use Rattle.tm_syntax.specs.declared.design.Var.{Var}
use Rattle.tm_syntax.specs.Tree.{SpecTree}
use Rattle.tm_syntax.specs.Design.{DesignTree}
use Rattle.tm_syntax.specs.Design.Atoms.{Resolved, a_variable, pool_atoms, resolved_atom}
use Rattle.tm_syntax.specs.Design.Sizes.{type_bits}
use Rattle.tm_typing.proofs.Listed.{In, first_of, later_of, some_pass}
use Rattle.tm_sem.specs.StateBits.{state_widths}
use Rattle.tm_flat_pool.specs.Predicates.{first_place, is_atom, is_bit, is_bit_of, is_bool}
use Rattle.tm_flat_pool.specs.Inner.Bits.{is_marked}
use Rattle.tm_flat_pool.specs.Inner.Marks.{AreMarked, is_variable, variable_in}
use Rattle.tm_flat_pool.proofs.Places.{sums_rise}
use Rattle.tm_flat_pool.proofs.StateWidths.{variable_width}

-- ---- tests
is_number : (o : Option ℕ) (v : ℕ) → option_map_or (λ k. k == v) o false ≡ true → o ≡ Some v
is_number None v is = absurd (cc)
is_number (Some k) v is = ap Some (eqb-true k v is)

number_is : (o : Option ℕ) (v : ℕ) → o ≡ Some v → option_map_or (λ k. k == v) o false ≡ true
number_is o v is = ap (λ x. option_map_or (λ k. k == v) x false) is ∙ eq-eqb v v refl

-- where some pass, one does
one_passes : {X : Type 0} (p : X → Bool) (xs : List X) → list_any p xs ≡ true → (x : X) × In x xs × (p x ≡ true)
one_passes p [] is = absurd (cc)
one_passes {X} p (x ∷ xs) is = by (p x) refl is (one_passes p xs)
  where
    by : (b : Bool) → p x ≡ b → (b || list_any p xs) ≡ true →
        (list_any p xs ≡ true → (y : X) × In y xs × (p y ≡ true)) → (y : X) × In y (x ∷ xs) × (p y ≡ true)
    by true here is rest = (x, first_of, here)
    by false here is rest = let found = rest is in (found.0, later_of found.1, found.2)

any_weaker : {X : Type 0} (p q : X → Bool) → ((x : X) → p x ≡ true → q x ≡ true) → (xs : List X) →
    list_any p xs ≡ true → list_any q xs ≡ true
any_weaker p q turns xs is = let one = one_passes p xs is in some_pass q xs one.1 (turns one.0 one.2)

bool_width : (spec : SpecTree) (ty : Ty) → is_bool ty ≡ true → type_bits spec ty ≡ 1
bool_width spec types.Bool is = refl
bool_width spec (types.Uint w) is = absurd (cc)
bool_width spec (types.Enum name) is = absurd (cc)

module _ (d : DesignTree) where
  -- the variable whose bit is a resolved expression
  bit_variable : (place : ℕ) (r : Resolved) → is_bit d place r ≡ true →
      (v : ℕ) × (variable_in r ≡ Some v) × (is_bit_of d place v ≡ true)
  bit_variable place (a_variable v) is = (v, refl, is)
  bit_variable place _ is = absurd (true≢false (sym is))

  variable_bit : (place : ℕ) (r : Resolved) (v : ℕ) → variable_in r ≡ Some v → is_bit_of d place v ≡ true →
      is_bit d place r ≡ true
  variable_bit place (a_variable k) v is bit =
      let same : k ≡ v = cc in subst (λ n. is_bit_of d place n ≡ true) (sym same) bit
  variable_bit place _ v is bit = absurd (none-some v is)

  -- a bool variable, whose bit has this place
  bool_there : (place v : ℕ) → is_bit_of d place v ≡ true →
      (var : Var) × (slice_get d.vars v ≡ Some var) × (is_bool var.ty ≡ true) × (first_place d v ≡ place)
  bool_there place v is = by (slice_get d.vars v) refl is
    where
      by : (o : Option Var) → slice_get d.vars v ≡ o →
          option_map_or (λ (var : Var). is_bool var.ty && first_place d v == place) o false ≡ true →
          (var : Var) × (slice_get d.vars v ≡ Some var) × (is_bool var.ty ≡ true) × (first_place d v ≡ place)
      by None there is = absurd (cc)
      by (Some var) there is =
          let both = and_parts (is_bool var.ty) (first_place d v == place) is in
          (var, there, both.0, eqb-true (first_place d v) place both.1)

  pub bool_bits : (v : ℕ) (var : Var) → slice_get d.vars v ≡ Some var → is_bool var.ty ≡ true →
      slice_index (state_widths d) v ≡ 1
  bool_bits v var there is = variable_width d v var there ∙ bool_width d.spec var.ty is

  -- a bool variable whose bit is one of those of a number is this number
  same_number : (i j v : ℕ) → j < slice_index (state_widths d) i → slice_index (state_widths d) v ≡ 1 →
      first_place d v ≡ first_place d i + j → v ≡ i
  same_number i j v below one start = by (cases_lt v i) (cases_lt i v)
    where
      by : (v < i) ⊎ (i ≤ v) → (i < v) ⊎ (v ≤ i) → v ≡ i
      by (inl before) other =
          let rise = sums_rise (state_widths d) v i before in absurd (omega (arith, rise, one, start))
      by (inr after) (inl before) =
          let rise = sums_rise (state_widths d) i v before in absurd (omega (arith, rise, below, start))
      by (inr after) (inr least) = omega (arith, after, least)

  -- what is a bit of a number is this number, which is a bool variable
  bit_is : (i j : ℕ) (r : Resolved) → j < slice_index (state_widths d) i → is_bit d (first_place d i + j) r ≡ true →
      (variable_in r ≡ Some i) × (var : Var) × (slice_get d.vars i ≡ Some var) × (is_bool var.ty ≡ true)
  bit_is i j r below is =
      let of = bit_variable (first_place d i + j) r is in
      let v = of.0 in
      let there = bool_there (first_place d i + j) v of.2 in
      let same = same_number i j v below (bool_bits v there.0 there.1 there.2) there.3 in
      (of.1 ∙ ap Some same, there.0, ap (slice_get d.vars) (sym same) ∙ there.1, there.2)

  module _ (marks : List Bool) (marked : AreMarked d (pool_atoms d) marks) (i : ℕ) where
    -- the bit of what is marked is an atom
    pub marked_bit : is_marked d marks i ≡ true →
        (is_atom d (first_place d i) ≡ true) × (slice_index (state_widths d) i ≡ 1)
    marked_bit is = by (slice_get d.vars i) refl is
      where
        by : (o : Option Var) → slice_get d.vars i ≡ o →
            option_map_or (λ (var : Var). is_bool var.ty && slice_index_or marks i false) o false ≡ true →
            (is_atom d (first_place d i) ≡ true) × (slice_index (state_widths d) i ≡ 1)
        by None there is = absurd (cc)
        by (Some var) there is =
            let both = and_parts (is_bool var.ty) (slice_index_or marks i false) is in
            let listed : list_any (is_variable d i) (pool_atoms d) ≡ true =
            sym (marked.each i (slice_get_within d.vars i var there)) ∙ both.1 in
            let here : is_bit_of d (first_place d i) i ≡ true =
            ap (λ o. option_map_or (λ (var : Var). is_bool var.ty && first_place d i == first_place d i) o false) there
            ∙ and_from (is_bool var.ty) (first_place d i == first_place d i) both.0
            (eq-eqb (first_place d i) (first_place d i) refl) in (
              any_weaker (is_variable d i) (λ a. is_bit d (first_place d i) (resolved_atom d a)) (λ a is.
                  variable_bit (first_place d i) (resolved_atom d a) i
                  (is_number (variable_in (resolved_atom d a)) i is) here) (pool_atoms d) listed,
              bool_bits i var there both.0,
            )

    -- no other bit is
    pub unmarked_bit : (j : ℕ) → j < slice_index (state_widths d) i → is_marked d marks i ≡ false →
        is_atom d (first_place d i + j) ≡ false
    unmarked_bit j below not_marked = by (is_atom d (first_place d i + j)) refl
      where
        by : (b : Bool) → is_atom d (first_place d i + j) ≡ b → is_atom d (first_place d i + j) ≡ false
        by false is = is
        by true is =
            let one = one_passes (λ a. is_bit d (first_place d i + j) (resolved_atom d a)) (pool_atoms d) is in
            let of = bit_is i j (resolved_atom d one.0) below one.2 in
            let listed = any_weaker (λ a. is_bit d (first_place d i + j) (resolved_atom d a)) (is_variable d i) (λ a is.
            number_is (variable_in (resolved_atom d a)) i (bit_is i j (resolved_atom d a) below is).0) (pool_atoms d)
            is in
            let here : is_marked d marks i ≡ true =
            ap (λ o. option_map_or (λ (var : Var). is_bool var.ty && slice_index_or marks i false) o false) of.2
            ∙ and_from (is_bool of.1.ty) (slice_index_or marks i false) of.3
            (marked.each i (slice_get_within d.vars i of.1 of.2) ∙ listed) in
            let both : true ≡ false = sym here ∙ not_marked in absurd (cc)

  module _ (marks : List Bool) (i : ℕ) where
    -- a number that is no variable is not marked
    pub marked_none : slice_get d.vars i ≡ None → false ≡ is_marked d marks i
    marked_none none =
        sym (ap (λ o. option_map_or (λ (var : Var). is_bool var.ty && slice_index_or marks i false) o false) none)

    pub marked_some : (var : Var) (bool mark both : Bool) → slice_get d.vars i ≡ Some var → bool ≡ is_bool var.ty →
        slice_get marks i ≡ Some mark → both ≡ (bool && mark) → both ≡ is_marked d marks i
    marked_some var bool mark both there of set is =
        let same : mark ≡ slice_index_or marks i false = sym (get_or_from_slice_get marks i mark false set) in
        is
        ∙ (λ j. of j && same j)
        ∙ sym (ap (λ o. option_map_or (λ (var : Var). is_bool var.ty && slice_index_or marks i false) o false) there)
