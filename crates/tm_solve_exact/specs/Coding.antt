-- The states of a game as values of levels, by its guarded updates alone.
use Rattle.std.specs.Prelude.{ℕ, ◌+◌, ◌-◌, false, List, length, take, drop, slice_index, slice_index_or}
use Rattle.tm_game_bits.specs.AssignedStates.{bits_by_place, numbers_from}
use Rattle.tm_game_bits.specs.Coding.{Coding}
use Rattle.tm_flat.specs.Flat.{FlatTerms}
use Rattle.tm_game_bits.specs.Functions.{Assignment}
use Rattle.tm_sem.specs.State.{StateData}
use Rattle.tm_sem.specs.StateBits.{bits_of_numbers, state_numbers}

-- the widths of the numbers of a state: all inputs but the bits of choices and of arguments
abbrev pub widths_in : FlatTerms → List ℕ
widths_in f = take (length f.widths - 128) f.widths

-- how many of them are values of variables: all but the locations of the processes and who moved last
abbrev pub variables_in : FlatTerms → ℕ
variables_in f = length (widths_in f) - (length f.processes + 1)

-- the state that numbers tell
abbrev pub state_from_numbers : FlatTerms → List ℕ → StateData
state_from_numbers f numbers = record {
  values = take (variables_in f) numbers;
  places = take (length f.processes) (drop (variables_in f) numbers);
  last = slice_index numbers (variables_in f + length f.processes);
}

-- the state that values of levels tell
abbrev pub state_in : FlatTerms → List ℕ → Assignment → StateData
state_in f order v = state_from_numbers f (numbers_from (widths_in f) (bits_by_place order v) 0)

-- values of levels that tell numbers; all levels that are of no state are false
abbrev pub levels_of : FlatTerms → List ℕ → List ℕ → Assignment
levels_of f order numbers level =
    slice_index_or (bits_of_numbers (widths_in f) numbers) (slice_index_or order level (length order)) false

-- both
abbrev pub coding_in : FlatTerms → List ℕ → Coding
coding_in f order = record {
  count = length order;
  state_of = state_in f order;
  assignment_of = λ s. levels_of f order (state_numbers s);
}
