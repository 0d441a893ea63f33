-- The coding by guarded updates is that of each design that has them.
use Rattle.std.proofs.Common.{◌≡◌, ℕ, ◌+◌, List, length, get_or, take, drop, false, ap, arith}
use Rattle.tm_game_bits.specs.AssignedStates.{bits_by_place, coding_of, numbers_from, state_of}
use Rattle.tm_flat.specs.Flat.{FlatTerms}
use Rattle.tm_flat.specs.IsFlat.{IsFlat}
use Rattle.tm_game_bits.specs.Functions.{Assignment}
use Rattle.tm_game.proofs.Ordered.{processes_are, widths_are}
use Rattle.tm_game.proofs.Shapes.{length-state_widths}
use Rattle.tm_sem.specs.StateBits.{bits_of_numbers, state_numbers, state_widths}
use Rattle.tm_syntax.specs.Design.{DesignTree}
use Rattle.tm_term.specs.Table.{Table}
use Rattle.tm_solve_exact.specs.Coding.{coding_in, state_in, variables_in, widths_in}

module _ (t : Table) (d : DesignTree) (f : FlatTerms) (flat : IsFlat t d f) where
  numbers_are : widths_in f ≡ state_widths d
  numbers_are = widths_are t d f flat

  movers_are : length f.processes ≡ length d.processes
  movers_are = processes_are t d f flat

  pub variables_are : variables_in f ≡ length d.vars
  variables_are = omega (arith, ap length numbers_are, length-state_widths d, movers_are)

  module _ (order : List ℕ) where
    pub state_is : (v : Assignment) → state_in f order v ≡ state_of d order v
    state_is v =
        let numbers = ap (λ (ws : List ℕ). numbers_from ws (bits_by_place order v) 0) numbers_are in
        λ i. record {
          values = take (variables_are i) (numbers i);
          places = take (movers_are i) (drop (variables_are i) (numbers i));
          last = get_or (numbers i) (variables_are i + movers_are i) 0;
        }

    pub coding_is : coding_in f order ≡ coding_of d order
    coding_is = λ i. record {
      count = length order;
      state_of = λ v. state_is v i;
      assignment_of = λ s level.
          get_or (bits_of_numbers (numbers_are i) (state_numbers s)) (get_or order level (length order)) false;
    }
