-- Numbers that decimal digits write.
use Rattle.std.specs.Prelude.{ℕ, ◌+◌, ◌-◌, ◌*◌, ◌^◌, Option, List, [], ◌∷◌, ◌&&◌, nat_lt}
use Rattle.std.specs.Bool.{then_some}
use Rattle.std.specs.Str.{all_ascii_digits}

-- the number that decimal digits write behind those of n
abbrev pub value_after : ℕ → List ℕ → ℕ
value_after n [] = n
value_after n (d ∷ ds) = value_after (n * 10 + (d - 48)) ds

-- the number that decimal digits write behind those of n, where it is below 2 ^ 64
abbrev pub digits_after : ℕ → List ℕ → Option ℕ
digits_after n ds = then_some (all_ascii_digits ds && nat_lt (value_after n ds) (2 ^ 64)) (value_after n ds)
