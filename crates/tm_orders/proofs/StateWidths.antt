-- The widths of the numbers of a state: those of all inputs of a design but the last 128.
use Rattle.std.proofs.Common.{◌≡◌, ℕ, ◌+◌, ◌-◌, List, ◌++◌, length, take, replicate, refl, ap, ◌∙◌, arith}
use Rattle.std.proofs.lemmas.List.{length-append, length-replicate, take-append-le, take_at}
use Rattle.tm_flat.specs.Inputs.{input_widths, room}
use Rattle.tm_sem.specs.StateBits.{state_widths}
use Rattle.tm_syntax.specs.Design.{DesignTree}

module _ (d : DesignTree) where
  pub count_inputs : length (input_widths d) ≡ length (state_widths d) + 128
  unfolding room
  count_inputs =
      omega (
        arith,
        length-append (state_widths d ++ replicate room 1) (replicate room 1),
        length-append (state_widths d) (replicate room 1),
        length-replicate {A = ℕ} room 1,
      )

  -- the front of the widths of all inputs
  pub first_widths : (widths : List ℕ) → widths ≡ input_widths d → (count : ℕ) → count ≡ length widths - 128 →
      take count widths ≡ state_widths d
  first_widths widths are count is =
      let long : count ≡ length (state_widths d) = omega (arith, is, ap length are, count_inputs) in
      (λ i. take (long i) (are i))
      ∙ take-append-le (length (state_widths d)) (state_widths d ++ replicate room 1) (replicate room 1)
      (omega (arith, length-append (state_widths d) (replicate room 1)))
      ∙ take_at (state_widths d) (replicate room 1) (length (state_widths d)) refl
