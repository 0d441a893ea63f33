-- What a sink took.
use Rattle.std.specs.Prelude.{◌≡◌, ℕ, List, ◌++◌, take}

-- the new bytes are the old ones and some first part of the piece
abbrev pub AppendsPrefix : List ℕ → List ℕ → List ℕ → Type 0
AppendsPrefix piece old new = (n : ℕ) × (new ≡ old ++ take n piece)
