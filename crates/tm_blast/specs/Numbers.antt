-- Lists of bits from the least significant bit, as the numbers that they mean.
use Rattle.std.specs.Prelude.{◌≡◌, ℕ, Bool, List, Vec, length, map, All}
use Rattle.std.specs.declared.alloc.Global.{Global}
use Rattle.tm_base.specs.Bits.{number_from_lowest}
use Rattle.tm_dd.specs.declared.node.NodeId.{NodeId}
use Rattle.tm_dd.specs.Table.{Table, Knows}
use Rattle.tm_blast.specs.Bits.{values_in}

-- the levels of each input
abbrev pub level_lists : List (Vec ℕ Global) → List (List ℕ)
level_lists levels = map (λ list. list.items) levels

-- the number that ids mean, the least significant bit first, where v gives each level's value
abbrev pub number_in : Table → List NodeId → (ℕ → Bool) → ℕ
number_in s ids v = number_from_lowest (values_in s ids v)

-- known ids mean a number of a width, the least significant bit first
pub record MeanNumber (s : Table) (ids : List NodeId) (width : ℕ) (value : (ℕ → Bool) → ℕ) : Type 0 where
  pub known : All (Knows s) ids
  pub count : length ids ≡ width
  pub number : (v : ℕ → Bool) → number_in s ids v ≡ value v
