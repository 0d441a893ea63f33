-- What holds of every store: its nodes are ordered, reduced and unique.
use Rattle.std.specs.Prelude.{◌≡◌, ◌≢◌, ℕ, ◌<◌, ◌≤◌, false, List, [], ◌∷◌, ◌++◌, length, nat_le, slice_index_or, if◌then◌else◌}
use Rattle.tm_dd.specs.declared.node.Node.{Node}
use Rattle.tm_dd.specs.NodeId.{position_of, is_marked}
use Rattle.tm_dd.specs.Table.{Table, kept, entry_at, depth_of, rank_of}

-- there is a rank for each of so many levels, below their number, and no two levels have the same
pub record AreRanks (levels : ℕ) (ranks : List ℕ) : Type 0 where
  pub one_a_level : length ranks ≡ levels
  pub within : (k : ℕ) → k < levels → slice_index_or ranks k levels < levels
  pub once : (j k : ℕ) → j < levels → k < levels → slice_index_or ranks j levels ≡ slice_index_or ranks k levels → j ≡ k

-- a node at a position: its children stand at smaller positions and deeper, they differ, and `lo` is unmarked
pub record IsEntry (s : Table) (position : ℕ) (n : Node) : Type 0 where
  pub below : n.level < s.levels
  pub lo_before : position_of n.lo < position
  pub hi_before : position_of n.hi < position
  pub lo_rises : rank_of s n.level < depth_of s n.lo
  pub hi_rises : rank_of s n.level < depth_of s n.hi
  pub differ : n.lo ≢ n.hi
  pub plain : is_marked n.lo ≡ false

-- every kept node is such a node, and none stands twice
pub record IsUniqueTable (s : Table) : Type 0 where
  pub ranks : AreRanks s.levels s.ranks
  pub nodes : (position : ℕ) → 0 < position → position ≤ kept s → IsEntry s position (entry_at s position)
  pub once : (p q : ℕ) → p ≤ kept s → q ≤ kept s → entry_at s p ≡ entry_at s q → p ≡ q

-- the table with one more node, at the next position
abbrev pub with_node : Table → Node → Table
with_node s n = record { levels = s.levels; ranks = s.ranks; nodes = s.nodes ++ n ∷ [] }

-- a node is kept: it had a position, or got the next one
pub record IsKept (old new : Table) (n : Node) (position : ℕ) : Type 0 where
  pub entry : entry_at new position ≡ n
  pub within : position ≤ kept new
  pub table : new ≡ (if nat_le position (kept old) then old else with_node old n)
