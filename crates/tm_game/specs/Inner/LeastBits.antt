-- The least bits by place at which two functions are true.
use Rattle.std.specs.Prelude.{◌≡◌, ℕ, Bool, true, false, List, length, map}
use Rattle.std.specs.List.{range_with_len}
use Rattle.tm_game_bits.specs.AssignedStates.{bits_by_place}
use Rattle.tm_dd.specs.declared.node.NodeId.{NodeId}
use Rattle.tm_dd.specs.Table.{Table, means}
use Rattle.tm_game_bits.specs.Functions.{Assignment}
use Rattle.tm_sem.specs.StateBits.{comes_before}

-- the bits by place that values of levels give
abbrev pub place_bits : List ℕ → Assignment → List Bool
place_bits order v = map (bits_by_place order v) (range_with_len 0 (length order))

-- two functions are true at some values
abbrev pub AreBothTrue : Table → NodeId → NodeId → Assignment → Type 0
AreBothTrue s f g v = (means s f v ≡ true) × (means s g v ≡ true)

-- they are so at none
abbrev pub IsNowhere : Table → NodeId → NodeId → Type 0
IsNowhere s f g = (v : Assignment) → ¬ AreBothTrue s f g v

-- they are so at values with these bits, and at none with bits that come before
pub record AreLeastBits (s : Table) (f g : NodeId) (order : List ℕ) (bits : List Bool) : Type 0 where
  pub at : Assignment
  pub here : AreBothTrue s f g at
  pub are : place_bits order at ≡ bits
  pub none_before : (v : Assignment) → AreBothTrue s f g v → comes_before (place_bits order v) bits ≡ false
