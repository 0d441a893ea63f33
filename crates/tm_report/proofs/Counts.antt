-- Counts that rise.
use Rattle.std.proofs.Common.{ℕ, ◌≤◌, Option, None, Some, arith}
use Rattle.tm_base.specs.Count.{Rose}

-- a count that rose later rose before
pub rose_later : (last : Option ℕ) (a b c : ℕ) → a ≤ b → Rose last b c → Rose last a c
rose_later None a b c le rose = omega arith
rose_later (Some l) a b c le rose = omega arith
