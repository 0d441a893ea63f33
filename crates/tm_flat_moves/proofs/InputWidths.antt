-- Which input has which width.
use Rattle.std.proofs.Common.{◌≡◌, ◌⊎◌, inl, inr, ℕ, zero, suc, ◌+◌, ◌-◌, ◌<◌, ◌≤◌, Some, List, [], ◌∷◌, ◌++◌, length, map, replicate, slice_get, slice_index, refl, sym, ap, ◌∙◌, subst, arith, length-append}
use Rattle.std.specs.List.{range_with_len}
use Rattle.std.specs.Option.{option_map}
use Rattle.std.proofs.lemmas.Option.{slice_get-map}
use Rattle.tm_syntax.specs.declared.design.Var.{Var}
use Rattle.tm_syntax.specs.Design.{DesignTree}
use Rattle.tm_syntax.specs.Design.Locations.{end_number}
use Rattle.tm_syntax.specs.Design.Sizes.{bits_of_number, type_bits}
use Rattle.tm_term.specs.declared.term.TermId.{TermId}
use Rattle.tm_term.specs.Table.{Table, IsSound}
use Rattle.tm_sem.specs.StateBits.{state_widths}
use Rattle.tm_flat.specs.Inputs.{first_choice, input_widths, room}
use Rattle.tm_flat.specs.Steps.{IsInput, IsTerm}
use Rattle.tm_flat_moves.proofs.InputTerms.{input_term}
use Rattle.tm_flat_moves.proofs.Lists.{get_back, get_front, get_range, get_replicate, index_is, map_long, range_long}

replicate_long : (n x : ℕ) → length (replicate n x) ≡ n
replicate_long zero x = refl
replicate_long (suc n) x = ap suc (replicate_long n x)

pub below_or_past : (i n : ℕ) → (i < n) ⊎ ((j : ℕ) × (i ≡ n + j))
below_or_past i zero = inr (i, omega arith)
below_or_past zero (suc n) = inl (omega arith)
below_or_past (suc i) (suc n) = by (below_or_past i n)
  where
    by : (i < n) ⊎ ((j : ℕ) × (i ≡ n + j)) → (suc i < suc n) ⊎ ((j : ℕ) × (suc i ≡ suc n + j))
    by (inl below) = inl (omega arith)
    by (inr past) = inr (past.0, omega (arith, past.1))

module _ (d : DesignTree) where
  abbrev vars : List ℕ
  vars = map (λ (v : Var). type_bits d.spec v.ty) d.vars

  abbrev places : List ℕ
  places = map (λ p. bits_of_number (end_number d p)) (range_with_len 0 (length d.processes))

  abbrev who : List ℕ
  who = bits_of_number (1 + length d.processes) ∷ []

  abbrev bits : List ℕ
  bits = replicate room 1

  places_long : length places ≡ length d.processes
  places_long =
      map_long (λ p. bits_of_number (end_number d p)) (range_with_len 0 (length d.processes))
      ∙ range_long 0 (length d.processes)

  both_long : length (vars ++ places) ≡ length d.vars + length d.processes
  both_long = let a = map_long (λ (v : Var). type_bits d.spec v.ty) d.vars in let b = places_long in
      omega (arith, length-append vars places, a, b)

  pub widths_long : length (state_widths d) ≡ first_choice d
  widths_long = let a = both_long in omega (arith, length-append (vars ++ places) who, a)

  pub inputs_many : length (input_widths d) ≡ first_choice d + (room + room)
  inputs_many =
      let a = widths_long in
      let b = replicate_long room 1 in
      omega (arith, length-append (state_widths d ++ bits) bits, length-append (state_widths d) bits, a, b)

  pub in_state : (i w : ℕ) → slice_get (state_widths d) i ≡ Some w → slice_get (input_widths d) i ≡ Some w
  in_state i w is = get_front (state_widths d ++ bits) bits i w (get_front (state_widths d) bits i w is)

  pub var_width : (i : ℕ) (v : Var) → slice_get d.vars i ≡ Some v →
      slice_get (input_widths d) i ≡ Some (type_bits d.spec v.ty)
  var_width i v is =
      let w = type_bits d.spec v.ty in
      let here : slice_get vars i ≡ Some w =
      slice_get-map (λ (v : Var). type_bits d.spec v.ty) d.vars i
      ∙ ap (option_map (λ (v : Var). type_bits d.spec v.ty)) is in
      in_state i w (get_front (vars ++ places) who i w (get_front vars places i w here))

  pub place_width : (p : ℕ) → p < length d.processes →
      slice_get (input_widths d) (length d.vars + p) ≡ Some (bits_of_number (end_number d p))
  place_width p below =
      let w = bits_of_number (end_number d p) in
      let here : slice_get places p ≡ Some w =
      slice_get-map (λ p. bits_of_number (end_number d p)) (range_with_len 0 (length d.processes)) p
      ∙ ap (option_map (λ p. bits_of_number (end_number d p))) (get_range 0 (length d.processes) p below)
      ∙ (let at : 0 + p ≡ p = omega arith in ap (λ k. Some (bits_of_number (end_number d k))) at) in
      let there : slice_get (vars ++ places) (length d.vars + p) ≡ Some w =
      ap (λ n. slice_get (vars ++ places) (n + p)) (sym (map_long (λ (v : Var). type_bits d.spec v.ty) d.vars))
      ∙ get_back vars places p ∙ here in
      in_state (length d.vars + p) w (get_front (vars ++ places) who (length d.vars + p) w there)

  pub last_width : slice_get (input_widths d) (length d.vars + length d.processes)
      ≡ Some (bits_of_number (1 + length d.processes))
  last_width =
      let at : length d.vars + length d.processes ≡ length (vars ++ places) + 0 =
      let a = both_long in omega (arith, a) in
      in_state (length d.vars + length d.processes) (bits_of_number (1 + length d.processes))
      (ap (slice_get (state_widths d)) at ∙ get_back (vars ++ places) who 0)

  pub bit_width : (i : ℕ) → i < room + room → slice_get (input_widths d) (first_choice d + i) ≡ Some 1
  bit_width i below = by (below_or_past i room)
    where
      by : (i < room) ⊎ ((j : ℕ) × (i ≡ room + j)) → slice_get (input_widths d) (first_choice d + i) ≡ Some 1
      by (inl inside) =
          let at : first_choice d + i ≡ length (state_widths d) + i = ap (λ n. n + i) (sym widths_long) in
          get_front (state_widths d ++ bits) bits (first_choice d + i) 1
          (ap (slice_get (state_widths d ++ bits)) at ∙ get_back (state_widths d) bits i
          ∙ get_replicate room 1 i inside)
      by (inr past) =
          let a = widths_long in
          let b = replicate_long room 1 in
          let at : first_choice d + i ≡ length (state_widths d ++ bits) + past.0 =
          omega (arith, length-append (state_widths d) bits, a, b, past.1) in
          ap (slice_get (input_widths d)) at ∙ get_back (state_widths d ++ bits) bits past.0
          ∙ get_replicate room 1 past.0 (omega (arith, below, past.1))

  -- a term that is an input has its width
  pub input_of : (t : Table) (i w : ℕ) (id : TermId) → t.inputs ≡ input_widths d → IsSound t → IsInput t i id →
      slice_get (input_widths d) i ≡ Some w → IsTerm t w id
  input_of t i w id inputs sound is width =
      subst (λ n. IsTerm t n id) (ap (λ ws. slice_index ws i) inputs ∙ index_is (input_widths d) i w width)
      (input_term t i id sound is)
