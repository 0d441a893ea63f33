-- What callers know of a store's ids, and of one that was extended by nodes.
use Rattle.std.specs.Prelude.{◌≡◌, ◌≢◌, ◌⊎◌, ℕ, ◌<◌, ◌≤◌, Bool, if◌then◌else◌}
use Rattle.tm_dd.specs.declared.node.Node.{Node}
use Rattle.tm_dd.specs.declared.node.NodeId.{NodeId}
use Rattle.tm_dd.specs.NodeId.{number_of, IsConstant}
use Rattle.tm_dd.specs.Table.{Table, kept, Knows, depth_of, level_of, node_of, means, rank_of}
use Rattle.tm_dd.specs.Unique.{AreRanks}

-- an id means what `hi` means where the level's value is true, and what `lo` means where it is false
abbrev pub MeansNode : Table → NodeId → Node → Type 0
MeansNode s id n = (v : ℕ → Bool) → means s id v ≡ (if v n.level then means s n.hi v else means s n.lo v)

-- an id stands below a level: it is a constant, or its own level stands deeper
abbrev pub IsDeeper : Table → ℕ → NodeId → Type 0
IsDeeper s level id = IsConstant id ⊎ (rank_of s level < depth_of s id)

-- the first so many levels stand in the order of their numbers
abbrev pub RanksRise : ℕ → Table → Type 0
RanksRise bits s = (j k : ℕ) → j < k → k < bits → rank_of s j < rank_of s k

-- n is the node of an id: its children are known, have smaller numbers, stand deeper, and differ
pub record IsNode (s : Table) (id : NodeId) (n : Node) : Type 0 where
  pub level : n.level ≡ level_of s id
  pub below : n.level < s.levels
  pub lo_known : Knows s n.lo
  pub hi_known : Knows s n.hi
  pub lo_smaller : number_of n.lo < number_of id
  pub hi_smaller : number_of n.hi < number_of id
  pub lo_rises : rank_of s n.level < depth_of s n.lo
  pub hi_rises : rank_of s n.level < depth_of s n.hi
  pub differ : n.lo ≢ n.hi
  pub meaning : MeansNode s id n

-- each level has a rank of its own, each known id that is no constant has a node, constants stand below all levels, a
-- function depends on levels from its own on downwards alone, and known ids that mean the same are equal
pub record IsReduced (s : Table) : Type 0 where
  pub ranks : AreRanks s.levels s.ranks
  pub nodes : (id : NodeId) → Knows s id → ¬ IsConstant id → IsNode s id (node_of s id)
  pub constants : (id : NodeId) → IsConstant id → level_of s id ≡ s.levels
  pub within : (id : NodeId) → Knows s id → level_of s id ≤ s.levels
  pub independent : (id : NodeId) → Knows s id → (v w : ℕ → Bool) →
      ((k : ℕ) → depth_of s id ≤ rank_of s k → k < s.levels → v k ≡ w k) → means s id v ≡ means s id w
  pub canonical : (f g : NodeId) → Knows s f → Knows s g → ((v : ℕ → Bool) → means s f v ≡ means s g v) → f ≡ g

-- what the old store knew the new one knows, at the same level, with the same node and meaning
pub record Extends (old new : Table) : Type 0 where
  pub same_levels : new.levels ≡ old.levels
  pub same_ranks : new.ranks ≡ old.ranks
  pub rises : kept old ≤ kept new
  pub same_level : (id : NodeId) → Knows old id → level_of new id ≡ level_of old id
  pub same_node : (id : NodeId) → Knows old id → node_of new id ≡ node_of old id
  pub same_meaning : (id : NodeId) → Knows old id → (v : ℕ → Bool) → means new id v ≡ means old id v
