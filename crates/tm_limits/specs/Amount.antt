-- Counts that stop at the greatest number of 64 bits.
use Rattle.std.specs.Prelude.{ℕ, ◌-◌, ◌^◌, min}

-- a count, which stays at the greatest number of 64 bits once it is reached
abbrev pub capped : ℕ → ℕ
capped n = min n (2 ^ 64 - 1)
