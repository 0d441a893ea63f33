-- How many values a type has, and in how many bits they are written.
use Rattle.std.specs.Prelude.{ℕ, ◌+◌, ◌-◌, ◌^◌, find, length, nat_lt}
use Rattle.std.specs.Option.{option_map_or}
use Rattle.std.specs.List.{position_or_len, range_with_len}
use Rattle.tm_syntax.specs.declared.design.Ty.{Ty}
use Rattle.tm_syntax.specs.declared.design.Ty.TheVariants as types
use Rattle.tm_syntax.specs.Tree.{SpecTree}
use Rattle.tm_syntax.specs.Scopes.Names.{is_spelled}

-- how many values a type has
abbrev pub type_size : SpecTree → Ty → ℕ
type_size spec types.Bool = 2
type_size spec (types.Uint n) = 2 ^ n
type_size spec (types.Enum name) =
    option_map_or (λ e. length e.constants) (find (λ e. is_spelled name e.name) spec.enums) 0

-- the bits that a number needs, at least one: the least count, from 1 to 64, with the number below 2 to its power
abbrev pub bits_of_number : ℕ → ℕ
bits_of_number n = 1 + position_or_len (λ count. nat_lt n (2 ^ count)) (range_with_len 1 63)

-- the bits of a type: as many as its greatest value needs
abbrev pub type_bits : SpecTree → Ty → ℕ
type_bits spec types.Bool = 1
type_bits spec (types.Uint n) = n
type_bits spec (types.Enum name) = bits_of_number (type_size spec (types.Enum name) - 1)

-- the width of the arithmetic on a type: constants of an enum are compared alone
abbrev pub width : Ty → ℕ
width types.Bool = 1
width (types.Uint n) = n
width (types.Enum _) = 64
