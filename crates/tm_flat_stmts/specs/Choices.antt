-- The bits of choices, as inputs of terms.
use Rattle.std.specs.Prelude.{◌≡◌, ◌+◌, ◌<◌, ◌==◌, ◌^◌, ℕ, Bool, Some, List, slice_get, slice_index}
use Rattle.tm_term.specs.Table.{Table}

-- the bit of choices at a position, given the number of the first input that is one
abbrev pub choice_bit : ℕ → List ℕ → ℕ → Bool
choice_bit first v k = slice_index v (first + k) == 1

-- so many inputs are bits of choices from a position on, by numbers that an input can have
pub record AreChoiceBits (t : Table) (first k width : ℕ) : Type 0 where
  pub small : first + k + width < 2 ^ 32
  pub bits : (i : ℕ) → i < width → slice_get t.inputs (first + k + i) ≡ Some 1
