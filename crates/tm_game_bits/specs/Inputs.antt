-- The levels of the inputs of terms: those of the state first, in an order, then those of the bits of arguments, then
-- those of the bits of choices.
use Rattle.std.specs.Prelude.{ℕ, ◌+◌, Bool, List, [], ◌∷◌, ◌++◌, length, map}
use Rattle.std.specs.List.{range_with_len}
use Rattle.tm_base.specs.Arithmetic.{bit}
use Rattle.tm_flat.specs.Inputs.{room}
use Rattle.tm_game_bits.specs.Order.{level_in}

-- the first level of a bit of choices
abbrev pub choice_level : List ℕ → ℕ
choice_level order = length order + room

-- the levels of numbers of these widths, whose bits stand from a place on, each most significant bit first
abbrev pub number_levels : List ℕ → List ℕ → ℕ → List (List ℕ)
number_levels order [] place = []
number_levels order (w ∷ ws) place =
    map (level_in order) (range_with_len place w) ∷ number_levels order ws (place + w)

-- the levels of bits that are an input each, from a level on
abbrev pub bit_levels : ℕ → ℕ → List (List ℕ)
bit_levels level count = map (λ k. k ∷ []) (range_with_len level count)

-- the levels of all inputs: of a state whose numbers have these widths, of choices and of arguments
abbrev pub input_levels : List ℕ → List ℕ → List (List ℕ)
input_levels order widths =
    number_levels order widths 0 ++ bit_levels (choice_level order) room ++ bit_levels (length order) room

-- the bits that values of levels give from a level on
abbrev pub bits_at : (ℕ → Bool) → ℕ → ℕ → List ℕ
bits_at v level count = map (λ k. bit (v k)) (range_with_len level count)

-- the bits of choices that values of levels give
abbrev pub choices_at : List ℕ → (ℕ → Bool) → List ℕ
choices_at order v = bits_at v (choice_level order) room

-- the bits of arguments that values of levels give
abbrev pub arguments_at : List ℕ → (ℕ → Bool) → List ℕ
arguments_at order v = bits_at v (length order) room
