-- Numbers of a width, as in any text on the theory of fixed-size bit-vectors (SMT-LIB's `QF_BV`): a number of width w
-- is a natural number below 2 ^ w, and arithmetic is modulo 2 ^ w. At every width the conjunction, the disjunction and
-- the exclusive disjunction of the bits of two numbers are the standard library's `bit_and`, `bit_or` and `bit_xor`.
use Rattle.std.specs.Prelude.{ℕ, ◌+◌, ◌-◌, ◌*◌, ◌/◌, ◌%◌, ◌^◌, ◌≤◌, ◌==◌, Bool, not, nat_lt, nat_le, if◌then◌else◌}

-- a width in bits that a machine word has
abbrev pub IsWidth : ℕ → Type 0
IsWidth w = (1 ≤ w) × (w ≤ 64)

-- the greatest number of a width: all its bits are 1
abbrev pub greatest : ℕ → ℕ
greatest w = 2 ^ w - 1

-- a number cut to a width, or extended by zeros to it
abbrev pub resize : ℕ → ℕ → ℕ
resize w a = a % 2 ^ w

-- each bit turned over
abbrev pub complement : ℕ → ℕ → ℕ
complement w a = 2 ^ w - 1 - a

-- the sum
abbrev pub sum : ℕ → ℕ → ℕ → ℕ
sum w a b = (a + b) % 2 ^ w

-- the difference
abbrev pub difference : ℕ → ℕ → ℕ → ℕ
difference w a b = (a + (2 ^ w - b)) % 2 ^ w

-- a number shifted to the left by so many bits: what is shifted out is lost
abbrev pub shift_left : ℕ → ℕ → ℕ → ℕ
shift_left w a by = a * 2 ^ by % 2 ^ w

-- a number shifted to the right by so many bits, with zeros from above
abbrev pub shift_right : ℕ → ℕ → ℕ
shift_right a by = a / 2 ^ by

-- a test as a number of one bit
abbrev pub bit : Bool → ℕ
bit b = if b then 1 else 0

-- whether a number counts as true
abbrev pub is_nonzero : ℕ → Bool
is_nonzero a = not (a == 0)

-- whether two numbers are equal
abbrev pub equal : ℕ → ℕ → ℕ
equal a b = bit (a == b)

-- whether two numbers differ
abbrev pub not_equal : ℕ → ℕ → ℕ
not_equal a b = bit (not (a == b))

-- whether the first number is below the second
abbrev pub less : ℕ → ℕ → ℕ
less a b = bit (nat_lt a b)

-- whether the first number is at most the second
abbrev pub less_equal : ℕ → ℕ → ℕ
less_equal a b = bit (nat_le a b)

-- the second number where the first counts as true, and else the third
abbrev pub choice : ℕ → ℕ → ℕ → ℕ
choice c a b = if is_nonzero c then a else b
