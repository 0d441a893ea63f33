-- The order of a game is one of the bits of the states of its design.
use Rattle.std.proofs.Common.{◌≡◌, ℕ, ◌+◌, ◌-◌, List, ◌++◌, length, take, replicate, refl, ap, ◌∙◌, subst, arith}
use Rattle.std.specs.Prelude.{sum}
use Rattle.std.specs.List.{AllZip}
use Rattle.std.proofs.lemmas.List.{length-append, length-replicate, take-append-le, take_at}
use Rattle.std.proofs.lemmas.List.FromFn.{length-range_with_len}
use Rattle.std.proofs.lemmas.Slice.Zip.{AllZip-long}
use Rattle.tm_flat.specs.Flat.{FlatTerms}
use Rattle.tm_flat.specs.Inputs.{room}
use Rattle.tm_flat.specs.IsFlat.{IsFlat, location_numbers, process_numbers}
use Rattle.tm_flat.specs.Steps.{IsProcessStep}
use Rattle.tm_game.specs.Start.{state_bits_in}
use Rattle.tm_game_bits.specs.Order.{IsOrder}
use Rattle.tm_sem.specs.StateBits.{state_widths}
use Rattle.tm_syntax.specs.Design.{DesignTree}
use Rattle.tm_term.specs.Table.{Table}

module _ (t : Table) (d : DesignTree) (f : FlatTerms) (flat : IsFlat t d f) where
  pub count_inputs : length f.widths ≡ length (state_widths d) + 128
  unfolding room
  count_inputs =
      omega (
        arith,
        ap length flat.widths,
        length-append (state_widths d ++ replicate room 1) (replicate room 1),
        length-append (state_widths d) (replicate room 1),
        length-replicate {A = ℕ} room 1,
      )

  pub widths_are : take (length f.widths - 128) f.widths ≡ state_widths d
  widths_are =
      let count : length f.widths - 128 ≡ length (state_widths d) = omega (arith, count_inputs) in
      ap (λ n. take n f.widths) count
      ∙ ap (take (length (state_widths d))) flat.widths
      ∙ take-append-le (length (state_widths d)) (state_widths d ++ replicate room 1) (replicate room 1)
      (omega (arith, length-append (state_widths d) (replicate room 1)))
      ∙ take_at (state_widths d) (replicate room 1) (length (state_widths d)) refl

  pub processes_are : length f.processes ≡ length d.processes
  processes_are =
      AllZip-long (λ p steps. AllZip (IsProcessStep t d p) (location_numbers d p) steps) (process_numbers d)
      f.processes flat.processes
      ∙ length-range_with_len 0 (length d.processes)

  pub order_is : (order : List ℕ) → IsOrder (state_bits_in f) order → IsOrder (sum (state_widths d)) order
  order_is order is = subst (λ (ws : List ℕ). IsOrder (sum ws) order) widths_are is
