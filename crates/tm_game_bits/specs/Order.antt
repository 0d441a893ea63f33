-- Orders of the bits of a state.
use Rattle.std.specs.Prelude.{ℕ, ◌==◌, List}
use Rattle.std.specs.List.{position_or_len, range_with_len}
use Rattle.std.specs.List.Sorted.{IsPermutation}

-- an order has each of so many places once
abbrev pub IsOrder : ℕ → List ℕ → Type 0
IsOrder count order = IsPermutation (range_with_len 0 count) order

-- the level of the bit of a place: its position in the order
abbrev pub level_in : List ℕ → ℕ → ℕ
level_in order place = position_or_len (λ p. p == place) order
