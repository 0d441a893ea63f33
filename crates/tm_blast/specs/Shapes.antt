-- The value of a term from the numbers that its parts are, by how many parts it has. These stand between the code and
-- the definition of a term's value.
use Rattle.std.specs.Prelude.{ℕ, ◌<◌, bit_and, bit_or, bit_xor}
use Rattle.tm_base.specs.Arithmetic.{resize, complement, sum, difference, shift_left, shift_right, equal, less}
use Rattle.tm_term.specs.declared.term.Term.{Term}
use Rattle.tm_term.specs.declared.term.Term.TheVariants.{Not, And, Or, Xor, Add, Sub, Shl, Shr, Eq, Less, Resize}

-- a term of one part of a width: a shift is by less than the width
abbrev pub IsSingle : Term → ℕ → Type 0
IsSingle (Not a) w = Unit {0}
IsSingle (Shl a by) w = by < w
IsSingle (Shr a by) w = by < w
IsSingle (Resize width a) w = Unit {0}
IsSingle _ w = ⊥

-- the width of a term of one part of a width
abbrev pub single_width : Term → ℕ → ℕ
single_width (Resize width a) w = width
single_width _ w = w

-- the value of a term of one part, of a width and a number
abbrev pub single_value : Term → ℕ → ℕ → ℕ
single_value (Not a) w x = complement w x
single_value (Shl a by) w x = shift_left w x by
single_value (Shr a by) w x = shift_right x by
single_value (Resize width a) w x = resize width x
single_value _ w x = 0

-- a term of two parts
abbrev pub IsPair : Term → Type 0
IsPair (And a b) = Unit {0}
IsPair (Or a b) = Unit {0}
IsPair (Xor a b) = Unit {0}
IsPair (Add a b) = Unit {0}
IsPair (Sub a b) = Unit {0}
IsPair (Eq a b) = Unit {0}
IsPair (Less a b) = Unit {0}
IsPair _ = ⊥

-- the width of a term of two parts of a width
abbrev pub pair_width : Term → ℕ → ℕ
pair_width (Eq a b) w = 1
pair_width (Less a b) w = 1
pair_width _ w = w

-- the value of a term of two parts, of a width and two numbers
abbrev pub pair_value : Term → ℕ → ℕ → ℕ → ℕ
pair_value (And a b) w x y = bit_and x y
pair_value (Or a b) w x y = bit_or x y
pair_value (Xor a b) w x y = bit_xor x y
pair_value (Add a b) w x y = sum w x y
pair_value (Sub a b) w x y = difference w x y
pair_value (Eq a b) w x y = equal x y
pair_value (Less a b) w x y = less x y
pair_value _ w x y = 0
