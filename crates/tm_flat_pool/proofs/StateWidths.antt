-- The widths of the numbers of a state, which are the first inputs.
use Rattle.std.proofs.Common.{◌≡◌, ℕ, ◌<◌, Some, List, ◌++◌, length, length-append, replicate, slice_get, slice_index, refl, sym, ◌∙◌, arith}
use Rattle.std.proofs.lemmas.List.{get_or_append_left}
use Rattle.std.proofs.lemmas.Option.{slice_get_within}
use Rattle.tm_syntax.specs.declared.design.Var.{Var}
use Rattle.tm_syntax.specs.Design.{DesignTree}
use Rattle.tm_syntax.specs.Design.Sizes.{type_bits}
use Rattle.tm_sem.specs.StateBits.{state_widths}
use Rattle.tm_flat.specs.Inputs.{first_choice, input_widths, room}
use Rattle.tm_flat_states.proofs.InputTerms.{inputs_many, var_width}
use Rattle.tm_flat_states.proofs.Lists.{index_is, replicate_long}

module _ (d : DesignTree) where
  abbrev bits : List ℕ
  bits = replicate room 1

  pub widths_long : length (state_widths d) ≡ first_choice d
  widths_long =
      let all = inputs_many d in
      let many = replicate_long {X = ℕ} room 1 in
      omega (arith, all, many, length-append (state_widths d ++ bits) bits, length-append (state_widths d) bits)

  pub index_widths : (ws : List ℕ) (k i : ℕ) → ws ≡ input_widths d → k ≡ i → i < length (state_widths d) →
      slice_index ws k ≡ slice_index (state_widths d) i
  index_widths ws k i inputs same inside =
      let within : i < length (state_widths d ++ bits) =
      omega (arith, length-append (state_widths d) bits, inside) in
      (λ j. slice_index (inputs j) (same j))
      ∙ get_or_append_left (state_widths d ++ bits) bits 0 i within
      ∙ get_or_append_left (state_widths d) bits 0 i inside

  -- the width of a variable
  pub variable_width : (v : ℕ) (var : Var) → slice_get d.vars v ≡ Some var →
      slice_index (state_widths d) v ≡ type_bits d.spec var.ty
  variable_width v var there =
      let long = widths_long in
      let below = slice_get_within d.vars v var there in
      sym (index_widths (input_widths d) v v refl refl (omega (arith, long, below)))
      ∙ index_is (input_widths d) v (type_bits d.spec var.ty) (var_width d v var there)
