-- The input that is the location of a process.
use Rattle.std.proofs.Common.{◌≡◌, ℕ, ◌+◌, ◌<◌, ◌^◌, Bool, true, false, length, slice_index, ap, ◌∙◌, subst, arith}
use Rattle.std.specs.Prelude.{if◌then◌else◌}
use Rattle.tm_base.specs.Arithmetic.{IsWidth}
use Rattle.tm_syntax.specs.Design.{DesignTree}
use Rattle.tm_syntax.specs.Design.Locations.{end_number}
use Rattle.tm_syntax.specs.Design.Sizes.{bits_of_number}
use Rattle.tm_term.specs.Table.{Table, IsSound}
use Rattle.tm_flat.specs.Inputs.{AreSmall, input_widths}
use Rattle.tm_flat.proofs.Widths.{number_has_bits}
use Rattle.tm_flat_moves.proofs.InputWidths.{inputs_many, place_width}
use Rattle.tm_flat_moves.proofs.Lists.{index_is}

module _ (d : DesignTree) (t : Table) (inputs : t.inputs ≡ input_widths d) (p : ℕ)
    (inside : p < length d.processes) where
  pub place_within : length d.vars + p < length t.inputs
  place_within = let all = inputs_many d in let same = ap length inputs in omega (arith, all, same, inside)

  pub place_is : slice_index t.inputs (length d.vars + p) ≡ bits_of_number (end_number d p)
  place_is =
      ap (λ ws. slice_index ws (length d.vars + p)) inputs
      ∙ index_is (input_widths d) (length d.vars + p) (bits_of_number (end_number d p)) (place_width d p inside)

  pub place_wide : IsSound t → IsWidth (bits_of_number (end_number d p))
  place_wide sound = subst IsWidth place_is (sound.inputs (length d.vars + p) place_within)

-- each location has a number of that width
pub place_low : (d : DesignTree) (p : ℕ) → AreSmall d → end_number d p < 2 ^ bits_of_number (end_number d p)
place_low d p small = number_has_bits (end_number d p) (small.locations p)

-- who has moved is one of the processes, or none of them
pub mover_low : (b : Bool) (p n last : ℕ) → p < n → last ≡ (if b then 1 else 2 + p) → last < 2 + n
mover_low true p n last inside is = omega (arith, is, inside)
mover_low false p n last inside is = omega (arith, is, inside)
