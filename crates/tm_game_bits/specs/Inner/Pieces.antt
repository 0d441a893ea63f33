-- A list cut into pieces.
use Rattle.std.specs.Prelude.{ℕ, List, [], ◌∷◌, drop, take}

-- the pieces of these lengths
abbrev pub pieces : List ℕ → List ℕ → List (List ℕ)
pieces xs [] = []
pieces xs (w ∷ ws) = take w xs ∷ pieces (drop w xs) ws
