-- What an operation gives is a number of its width.
use Rattle.std.proofs.Common.{ℕ, ◌+◌, ◌-◌, ◌*◌, ◌^◌, ◌<◌, Bool, true, false, arith}
use Rattle.std.specs.Prelude.{bit_and, bit_or, bit_xor, ◌==◌, not, nat_lt, nat_le, if◌then◌else◌}
use Rattle.std.proofs.lemmas.Nat.{pow_pos, or_lt, xor_lt, and_le_l, shr_le, mod_below}
use Rattle.tm_base.specs.Arithmetic.{greatest, resize, complement, sum, difference, shift_left, shift_right, bit, is_nonzero, equal, not_equal, less, less_equal, choice}

pub greatest-below : (w : ℕ) → greatest w < 2 ^ w
greatest-below w = omega (arith, pow_pos w)

pub resize-below : (w a : ℕ) → resize w a < 2 ^ w
resize-below w a = mod_below a (2 ^ w) (pow_pos w)

pub complement-below : (w a : ℕ) → complement w a < 2 ^ w
complement-below w a = omega (arith, pow_pos w)

pub sum-below : (w a b : ℕ) → sum w a b < 2 ^ w
sum-below w a b = mod_below (a + b) (2 ^ w) (pow_pos w)

pub difference-below : (w a b : ℕ) → difference w a b < 2 ^ w
difference-below w a b = mod_below (a + (2 ^ w - b)) (2 ^ w) (pow_pos w)

pub shift_left-below : (w a by : ℕ) → shift_left w a by < 2 ^ w
shift_left-below w a by = mod_below (a * 2 ^ by) (2 ^ w) (pow_pos w)

pub shift_right-below : (w a by : ℕ) → a < 2 ^ w → shift_right a by < 2 ^ w
shift_right-below w a by h = omega (arith, shr_le a by)

pub bit_and-below : (w a b : ℕ) → a < 2 ^ w → bit_and a b < 2 ^ w
bit_and-below w a b h = omega (arith, and_le_l a b)

pub bit_or-below : (w a b : ℕ) → a < 2 ^ w → b < 2 ^ w → bit_or a b < 2 ^ w
bit_or-below = or_lt

pub bit_xor-below : (w a b : ℕ) → a < 2 ^ w → b < 2 ^ w → bit_xor a b < 2 ^ w
bit_xor-below = xor_lt

pub bit-below : (b : Bool) → bit b < 2 ^ 1
bit-below true = omega arith
bit-below false = omega arith

pub equal-below : (a b : ℕ) → equal a b < 2 ^ 1
equal-below a b = bit-below (a == b)

pub not_equal-below : (a b : ℕ) → not_equal a b < 2 ^ 1
not_equal-below a b = bit-below (not (a == b))

pub less-below : (a b : ℕ) → less a b < 2 ^ 1
less-below a b = bit-below (nat_lt a b)

pub less_equal-below : (a b : ℕ) → less_equal a b < 2 ^ 1
less_equal-below a b = bit-below (nat_le a b)

either_below : (t : Bool) (a b m : ℕ) → a < m → b < m → (if t then a else b) < m
either_below true a b m h k = h
either_below false a b m h k = k

pub choice-below : (w c a b : ℕ) → a < 2 ^ w → b < 2 ^ w → choice c a b < 2 ^ w
choice-below w c a b h k = either_below (is_nonzero c) a b (2 ^ w) h k
