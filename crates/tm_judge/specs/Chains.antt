-- The longest chain of a certificate.
use Rattle.std.specs.Prelude.{ℕ, List, [], ◌∷◌, length, max}
use Rattle.tm_cert.specs.Cert.{LevelData}

-- the greatest size of some things, 0 where there is none
abbrev pub greatest : {A : Type 0} → (A → ℕ) → List A → ℕ
greatest size [] = 0
greatest size (x ∷ xs) = max (size x) (greatest size xs)

-- the number of sets in the longest chain of a level
abbrev pub longest_in : LevelData → ℕ
longest_in l = greatest length l.chains
