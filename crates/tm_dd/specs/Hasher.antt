-- What a hasher of numbers computes.
use Rattle.std.specs.Prelude.{ℕ, ◌+◌, ◌*◌, ◌%◌, ◌^◌, List}
use Rattle.std.specs.Int.{from_le_bytes, w64}
use Rattle.tm_dd.specs.declared.hasher.NumberHasher.{NumberHasher}
use Rattle.tm_dd.specs.declared.node.TheConstants.{FACTOR}

-- a hasher after a number: their sum, times a factor
unfoldable pub taken : NumberHasher → ℕ → NumberHasher
taken h number = record { state = (h.state + number) % 2 ^ 64 * FACTOR % 2 ^ 64 }

-- a hasher after bytes: the number that the first eight are, the lowest first
abbrev pub written : NumberHasher → List ℕ → NumberHasher
written h bytes = taken h (from_le_bytes w64 bytes)
