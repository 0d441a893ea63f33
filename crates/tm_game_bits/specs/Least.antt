-- The least values of some levels for which a function is true.
use Rattle.std.specs.Prelude.{◌≡◌, ℕ, Bool, true, false, List, map}
use Rattle.tm_dd.specs.declared.node.NodeId.{NodeId}
use Rattle.tm_dd.specs.Table.{Table, means}
use Rattle.tm_sem.specs.StateBits.{comes_before}

-- a function is true where the levels have these values, for some values of the others, and nowhere where they have
-- values that come before
pub record IsLeastAlong (s : Table) (f : NodeId) (levels : List ℕ) (values : List Bool) : Type 0 where
  pub here : (v : ℕ → Bool) × (means s f v ≡ true) × (map v levels ≡ values)
  pub none_before : (v : ℕ → Bool) → means s f v ≡ true → comes_before (map v levels) values ≡ false
