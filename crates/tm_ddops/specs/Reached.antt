-- The nodes that are reached from an id, and how many there are.
use Rattle.std.specs.Prelude.{◌≡◌, ◌≢◌, ℕ, ◌+◌, ◌*◌, ◌≤◌, ◌⊎◌, List, length, Contains, AllPairs}
use Rattle.tm_dd.specs.declared.node.NodeId.{NodeId}
use Rattle.tm_dd.specs.NodeId.{IsConstant}
use Rattle.tm_dd.specs.Table.{Table, node_of}

-- the ids that are reached from an id, through the nodes of those that are no constants
pub data Reaches (s : Table) : NodeId → NodeId → Type 0 where
  itself : (f : NodeId) → Reaches s f f
  through_lo : (f g : NodeId) → ¬ IsConstant f → Reaches s (node_of s f).lo g → Reaches s f g
  through_hi : (f g : NodeId) → ¬ IsConstant f → Reaches s (node_of s f).hi g → Reaches s f g

-- a list of the ids of inner nodes that are reached from an id, each of them once
pub record IsInnerNodes (s : Table) (f : NodeId) (ids : List NodeId) : Type 0 where
  pub once : AllPairs (λ a b. a ≢ b) ids
  pub reached : (g : NodeId) → Contains ids g → Reaches s f g
  pub inner : (g : NodeId) → Contains ids g → ¬ IsConstant g
  pub every : (g : NodeId) → Reaches s f g → ¬ IsConstant g → Contains ids g

-- n is the number of ids of inner nodes that are reached from an id
abbrev pub HasSize : Table → NodeId → ℕ → Type 0
HasSize s f n = (ids : List NodeId) × IsInnerNodes s f ids × (length ids ≡ n)

-- a number rises by at most the inner nodes of f times those of g
pub record RisesByPairs (s : Table) (f g : NodeId) (before after : ℕ) : Type 0 where
  pub m : ℕ
  pub n : ℕ
  pub f_size : HasSize s f m
  pub g_size : HasSize s g n
  pub bound : after ≤ before + m * n

-- the id of an inner node that is reached from f; both its children are constants or in the list
pub record IsOpened (s : Table) (f : NodeId) (ids : List NodeId) (g : NodeId) : Type 0 where
  pub reached : Reaches s f g
  pub inner : ¬ IsConstant g
  pub lo : IsConstant (node_of s g).lo ⊎ Contains ids (node_of s g).lo
  pub hi : IsConstant (node_of s g).hi ⊎ Contains ids (node_of s g).hi

-- the list has f, if that is no constant, and all that it had; whatever else it has is opened
pub record IsGathered (s : Table) (f : NodeId) (old new : List NodeId) : Type 0 where
  pub kept : (g : NodeId) → Contains old g → Contains new g
  pub there : IsConstant f ⊎ Contains new f
  pub opened : (g : NodeId) → Contains new g → Contains old g ⊎ IsOpened s f new g
