-- The places of the bits of one weight, number by number.
use Rattle.std.specs.Prelude.{ℕ, ◌+◌, ◌-◌, List, [], ◌∷◌, nat_lt, if◌then◌else◌}

-- the place of the bit of this weight of a number whose bits begin at a place, where it has one
abbrev pub at_weight : ℕ → ℕ → ℕ → List ℕ
at_weight start width weight = if nat_lt weight width then (start + (width - 1 - weight)) ∷ [] else []
