-- A valid state is told by its bits.
use Rattle.std.proofs.Common.{◌≡◌, ℕ, Bool, false, List, length, sym, ap, ◌∙◌}
use Rattle.std.specs.Prelude.{slice_index_or, sum}
use Rattle.std.specs.List.{range_with_len}
use Rattle.std.proofs.lemmas.List.{length-map}
use Rattle.std.proofs.lemmas.List.FromFn.{length-range_with_len}
use Rattle.std.proofs.lemmas.List.Sorted.{IsPermutation-refl}
use Rattle.tm_game_bits.specs.AssignedStates.{assignment_of, bits_by_place, state_of}
use Rattle.tm_game_bits.proofs.Coded.{is_coding, numbers_told}
use Rattle.tm_game_bits.proofs.Numbers.{bits_of-numbers_from}
use Rattle.tm_flat.specs.Inputs.{AreSmall}
use Rattle.tm_game_bits.specs.Order.{IsOrder}
use Rattle.tm_sem.specs.State.{StateData}
use Rattle.tm_sem.specs.StateBits.{bits_of_numbers, state_bits, state_widths}
use Rattle.tm_sem.specs.Step.{IsState}
use Rattle.tm_syntax.specs.Design.{DesignTree}

module _ (d : DesignTree) (small : AreSmall d) where
  -- the places in order
  abbrev places : List ℕ
  places = range_with_len 0 (sum (state_widths d))

  is_order : IsOrder (sum (state_widths d)) places
  is_order = IsPermutation-refl places

  told_back : (s : StateData) → IsState d s → state_of d places (assignment_of d places s) ≡ s
  told_back s valid = (is_coding d places small is_order).back s valid

  -- so it has as many bits as there are
  pub bits_counted : (s : StateData) → IsState d s → length (state_bits d s) ≡ sum (state_widths d)
  bits_counted s valid =
      let v = assignment_of d places s in
      ap (λ (t : StateData). length (state_bits d t)) (sym (told_back s valid))
      ∙ ap (λ (ns : List ℕ). length (bits_of_numbers (state_widths d) ns)) (numbers_told d places is_order v)
      ∙ ap (λ (bits : List Bool). length bits)
      (bits_of-numbers_from (state_widths d) (bits_by_place places v) 0)
      ∙ length-map places (bits_by_place places v)
      ∙ length-range_with_len 0 (sum (state_widths d))

  -- and two with the same bits are one
  pub same_bits : (s t : StateData) → IsState d s → IsState d t → state_bits d s ≡ state_bits d t → s ≡ t
  same_bits s t valid also same =
      sym (told_back s valid)
      ∙ ap (λ (bits : List Bool).
      state_of d places (λ level. slice_index_or bits (slice_index_or places level (length places)) false)) same
      ∙ told_back t also
