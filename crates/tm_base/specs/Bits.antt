-- A number as the list of its bits.
use Rattle.std.specs.Prelude.{ℕ, zero, suc, ◌+◌, ◌*◌, ◌/◌, ◌%◌, ◌^◌, ◌==◌, Bool, List, [], ◌∷◌, length}
use Rattle.tm_base.specs.Arithmetic.{bit}

-- the number of a list of bits, the most significant first
abbrev pub number_of : List Bool → ℕ
number_of [] = 0
number_of (b ∷ bits) = bit b * 2 ^ length bits + number_of bits

-- the number of a list of bits, the least significant first
abbrev pub number_from_lowest : List Bool → ℕ
number_from_lowest [] = 0
number_from_lowest (b ∷ bits) = bit b + 2 * number_from_lowest bits

-- the bits of a number of a width, the most significant first
abbrev pub bits_of : ℕ → ℕ → List Bool
bits_of zero n = []
bits_of (suc w) n = (n / 2 ^ w % 2 == 1) ∷ bits_of w n
