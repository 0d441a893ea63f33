-- What a file holds.
use Rattle.std.specs.Prelude.{ℕ, ◌<◌, List, Option, length, IsSomeAnd}

-- the file is there, and it is longer than the limit
abbrev pub IsLonger : Option (List ℕ) → ℕ → Type 0
IsLonger contents limit = IsSomeAnd contents (λ bytes. limit < length bytes)
