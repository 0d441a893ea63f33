-- Which input has which width, and the inputs as terms.
use Rattle.std.proofs.Common.{◌≡◌, ℕ, ◌+◌, ◌^◌, ◌<◌, ◌≤◌, Some, List, [], ◌∷◌, ◌++◌, length, map, replicate, slice_get, slice_index, sym, ap, ◌∙◌, subst, arith, length-append}
use Rattle.std.specs.List.{range_with_len}
use Rattle.std.specs.Option.{option_map}
use Rattle.std.proofs.lemmas.Option.{slice_get-map}
use Rattle.tm_syntax.specs.declared.design.Var.{Var}
use Rattle.tm_syntax.specs.Design.{DesignTree}
use Rattle.tm_syntax.specs.Design.Locations.{end_number}
use Rattle.tm_syntax.specs.Design.Sizes.{bits_of_number, type_bits}
use Rattle.tm_term.specs.declared.term.Term.TheVariants.{Input}
use Rattle.tm_term.specs.declared.term.TermId.{TermId}
use Rattle.tm_term.specs.Table.{Table, IsSound, term_width}
use Rattle.tm_term.specs.Value.{term_value, value_of, Extends}
use Rattle.tm_term.proofs.Growth.{has_term, known_term}
use Rattle.tm_term.proofs.Valued.{value_of-term}
use Rattle.tm_sem.specs.StateBits.{state_widths}
use Rattle.tm_flat.specs.Inputs.{first_choice, input_widths, room}
use Rattle.tm_flat.specs.Steps.{IsInput, IsTerm}
use Rattle.tm_flat_exprs.specs.Made.{Makes}
use Rattle.tm_flat_states.proofs.Lists.{get_back, get_front, get_range, index_is, map_long, range_long, replicate_long}

pub input_along : (t n : Table) (i : ℕ) (id : TermId) → Extends t n → IsInput t i id → IsInput n i id
input_along t n i id grown is = grown.terms id (known_term t id (Input i) is) ∙ is

-- an input has its width
input_term : (t : Table) (i : ℕ) (id : TermId) → IsSound t → IsInput t i id → IsTerm t (slice_index t.inputs i) id
input_term t i id sound is =
    let has = has_term t id (Input i) sound is in (known_term t id (Input i) is, has.entry.sized)

-- and the value that it is given
pub input_value : (t u : Table) (i : ℕ) (id : TermId) → IsSound t → IsInput t i id → Extends t u → (v : List ℕ) →
    value_of u v id ≡ slice_index v i
input_value t u i id sound is more v =
    more.values v id (known_term t id (Input i) is) ∙ value_of-term t v sound id (Input i) is

module _ (d : DesignTree) where
  abbrev vars : List ℕ
  vars = map (λ (v : Var). type_bits d.spec v.ty) d.vars

  abbrev places : List ℕ
  places = map (λ p. bits_of_number (end_number d p)) (range_with_len 0 (length d.processes))

  abbrev who : List ℕ
  who = bits_of_number (1 + length d.processes) ∷ []

  abbrev bits : List ℕ
  bits = replicate room 1

  places_long : length places ≡ length d.processes
  places_long =
      map_long (λ p. bits_of_number (end_number d p)) (range_with_len 0 (length d.processes))
      ∙ range_long 0 (length d.processes)

  both_long : length (vars ++ places) ≡ length d.vars + length d.processes
  both_long = let a = map_long (λ (v : Var). type_bits d.spec v.ty) d.vars in let b = places_long in
      omega (arith, length-append vars places, a, b)

  widths_long : length (state_widths d) ≡ first_choice d
  widths_long = let a = both_long in omega (arith, length-append (vars ++ places) who, a)

  pub inputs_many : length (input_widths d) ≡ first_choice d + (room + room)
  inputs_many =
      let a = widths_long in
      let b = replicate_long {X = ℕ} room 1 in
      omega (arith, length-append (state_widths d ++ bits) bits, length-append (state_widths d) bits, a, b)

  in_state : (i w : ℕ) → slice_get (state_widths d) i ≡ Some w → slice_get (input_widths d) i ≡ Some w
  in_state i w is = get_front (state_widths d ++ bits) bits i w (get_front (state_widths d) bits i w is)

  pub var_width : (i : ℕ) (v : Var) → slice_get d.vars i ≡ Some v →
      slice_get (input_widths d) i ≡ Some (type_bits d.spec v.ty)
  var_width i v is =
      let w = type_bits d.spec v.ty in
      let here : slice_get vars i ≡ Some w =
      slice_get-map (λ (v : Var). type_bits d.spec v.ty) d.vars i
      ∙ ap (option_map (λ (v : Var). type_bits d.spec v.ty)) is in
      in_state i w (get_front (vars ++ places) who i w (get_front vars places i w here))

  pub place_width : (p : ℕ) → p < length d.processes →
      slice_get (input_widths d) (length d.vars + p) ≡ Some (bits_of_number (end_number d p))
  place_width p below =
      let w = bits_of_number (end_number d p) in
      let here : slice_get places p ≡ Some w =
      slice_get-map (λ p. bits_of_number (end_number d p)) (range_with_len 0 (length d.processes)) p
      ∙ ap (option_map (λ p. bits_of_number (end_number d p))) (get_range 0 (length d.processes) p below)
      ∙ (let at : 0 + p ≡ p = omega arith in ap (λ k. Some (bits_of_number (end_number d k))) at) in
      let there : slice_get (vars ++ places) (length d.vars + p) ≡ Some w =
      ap (λ n. slice_get (vars ++ places) (n + p)) (sym (map_long (λ (v : Var). type_bits d.spec v.ty) d.vars))
      ∙ get_back vars places p ∙ here in
      in_state (length d.vars + p) w (get_front (vars ++ places) who (length d.vars + p) w there)

  pub last_width : slice_get (input_widths d) (length d.vars + length d.processes)
      ≡ Some (bits_of_number (1 + length d.processes))
  last_width =
      let at : length d.vars + length d.processes ≡ length (vars ++ places) + 0 =
      let a = both_long in omega (arith, a) in
      in_state (length d.vars + length d.processes) (bits_of_number (1 + length d.processes))
      (ap (slice_get (state_widths d)) at ∙ get_back (vars ++ places) who 0)

  -- a term that is an input has its width
  pub input_of : (t : Table) (i w : ℕ) (id : TermId) → t.inputs ≡ input_widths d → IsSound t → IsInput t i id →
      slice_get (input_widths d) i ≡ Some w → IsTerm t w id
  input_of t i w id inputs sound is width =
      subst (λ n. IsTerm t n id) (ap (λ ws. slice_index ws i) inputs ∙ index_is (input_widths d) i w width)
      (input_term t i id sound is)

  -- the width of an input
  pub width_is : (ws : List ℕ) (i w : ℕ) → ws ≡ input_widths d → slice_get (input_widths d) i ≡ Some w →
      slice_index ws i ≡ w
  width_is ws i w inputs width = ap (λ ws. slice_index ws i) inputs ∙ index_is (input_widths d) i w width

-- an input that was made has its width and its value
pub input_made : (d : DesignTree) (t n : Table) (i j w : ℕ) (id : TermId) → t.inputs ≡ input_widths d → i ≡ j →
    slice_get (input_widths d) j ≡ Some w →
    Makes t n (term_width t (Input i)) id (λ u v. term_value u v (Input i)) →
    Makes t n w id (λ u v. slice_index v j)
input_made d t n i j w id inputs same width made = record {
  grown = made.grown;
  sound = made.sound;
  term = (made.term.0, made.term.1 ∙ ap (slice_index t.inputs) same ∙ width_is d t.inputs j w inputs width);
  value = λ u more v are. made.value u more v are ∙ ap (slice_index v) same;
}

pub place_inside : (d : DesignTree) (ws : List ℕ) (p : ℕ) → ws ≡ input_widths d → p < length d.processes →
    length d.vars + p < length ws
place_inside d ws p inputs inside =
    let many = inputs_many d in let same = ap length inputs in omega (arith, many, same, inside)

pub last_inside : (d : DesignTree) (ws : List ℕ) → ws ≡ input_widths d → length d.vars + length d.processes < length ws
last_inside d ws inputs =
    let many = inputs_many d in let same = ap length inputs in omega (arith, many, same)

-- there are few inputs
pub few_places : (d : DesignTree) (p : ℕ) → first_choice d + (room + room) < 2 ^ 32 → p ≤ length d.processes →
    length d.vars + p < 2 ^ 32
few_places d p few inside = omega (arith, few, inside)
