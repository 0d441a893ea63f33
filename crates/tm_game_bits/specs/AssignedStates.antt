-- The states of a design as values of levels, which follow an order of the bits of a state.
use Rattle.std.specs.Prelude.{ℕ, ◌+◌, Bool, false, List, [], ◌∷◌, length, map, slice_index_or}
use Rattle.std.specs.List.{range_with_len}
use Rattle.tm_base.specs.Bits.{number_of}
use Rattle.tm_game_bits.specs.Coding.{Coding}
use Rattle.tm_flat.specs.Inputs.{state_from}
use Rattle.tm_game_bits.specs.Order.{level_in}
use Rattle.tm_sem.specs.State.{StateData}
use Rattle.tm_sem.specs.StateBits.{state_bits, state_widths}
use Rattle.tm_syntax.specs.Design.{DesignTree}

-- the numbers of these widths whose bits stand from a place on, each with its most significant bit first
abbrev pub numbers_from : List ℕ → (ℕ → Bool) → ℕ → List ℕ
numbers_from [] bits place = []
numbers_from (w ∷ ws) bits place = number_of (map bits (range_with_len place w)) ∷ numbers_from ws bits (place + w)

-- the bits of a state by place, where values of levels give them
abbrev pub bits_by_place : List ℕ → (ℕ → Bool) → ℕ → Bool
bits_by_place order v place = v (level_in order place)

-- the state that values of levels tell
abbrev pub state_of : DesignTree → List ℕ → (ℕ → Bool) → StateData
state_of d order v = state_from d (numbers_from (state_widths d) (bits_by_place order v) 0)

-- values of levels that tell a state: each level of a state has the bit of the place in the order, all others are false
abbrev pub assignment_of : DesignTree → List ℕ → StateData → ℕ → Bool
assignment_of d order s level = slice_index_or (state_bits d s) (slice_index_or order level (length order)) false

-- both
abbrev pub coding_of : DesignTree → List ℕ → Coding
coding_of d order = record {
  count = length order;
  state_of = state_of d order;
  assignment_of = assignment_of d order;
}
