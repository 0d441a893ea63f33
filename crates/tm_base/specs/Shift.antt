-- What a shift operator gives.
use Rattle.std.specs.Prelude.{ℕ}
use Rattle.tm_base.specs.Arithmetic.{shift_left, shift_right}
use Rattle.tm_base.specs.declared.shift_operator.ShiftOperator.{ShiftOperator}
use Rattle.tm_base.specs.declared.shift_operator.ShiftOperator.TheVariants.{Left, Right}

-- a number of width w shifted by so many bits
abbrev pub shift : ShiftOperator → ℕ → ℕ → ℕ → ℕ
shift Left w a by = shift_left w a by
shift Right w a by = shift_right a by
