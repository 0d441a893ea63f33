-- How guarded updates, an order of the levels of a state and an encoding fit together.
use Rattle.std.specs.Prelude.{◌≡◌, ℕ, ◌+◌, ◌≤◌, List, All, drop, length, sum, take}
use Rattle.tm_game_bits.specs.Inputs.{input_levels}
use Rattle.tm_flat.specs.Flat.{FlatTerms}
use Rattle.tm_flat.specs.Inputs.{room}
use Rattle.tm_game_bits.specs.Order.{IsOrder}
use Rattle.tm_game_steps.specs.Setting.{Setting}

-- the widths of the numbers of a state
abbrev pub state_widths_in : Setting → FlatTerms → List ℕ
state_widths_in x f = take x.numbers f.widths

-- the levels of the inputs follow an order of the bits of a state, whose last numbers are the locations of the
-- processes and who moved last, which are numbers of at most 32 bits
pub record IsShape (x : Setting) (f : FlatTerms) (order : List ℕ) : Type 0 where
  pub widths : length f.widths ≡ x.numbers + (room + room)
  pub numbers : x.numbers ≡ x.first + (length f.processes + 1)
  pub permutes : IsOrder (sum (state_widths_in x f)) order
  pub levels : x.levels ≡ input_levels order (state_widths_in x f)
  pub count : x.state_levels ≡ length order
  pub wide : All (λ w. w ≤ 64) (state_widths_in x f)
  pub short : All (λ w. w ≤ 32) (drop x.first (state_widths_in x f))
