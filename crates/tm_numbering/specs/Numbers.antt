-- The nodes of diagrams as entries of a certificate. Here `s` is the table of a store, `bits` is the number of the
-- certificate's levels, `ids` are the ids that have entries, in the order of these, `nodes` are the entries, k is a
-- position in both lists, and n the number of an id.
use Rattle.std.specs.Prelude.{◌≡◌, ◌⊎◌, ℕ, ◌+◌, ◌<◌, ◌≤◌, Bool, List, Some, length, slice_get}
use Rattle.tm_cert.specs.declared.cert.Entry.{Entry}
use Rattle.tm_dd.specs.declared.node.NodeId.{NodeId}
use Rattle.tm_dd.specs.NodeId.{IsConstant, number_of}
use Rattle.tm_dd.specs.Table.{Table, Knows, depth_of, level_of, means, node_of}

-- an id is known, and its function reads the first so many levels alone
pub record IsOver (s : Table) (bits : ℕ) (id : NodeId) : Type 0 where
  pub known : Knows s id
  pub reads : (v w : ℕ → Bool) → ((k : ℕ) → k < bits → v k ≡ w k) → means s id v ≡ means s id w

-- n is the number of an id among the first so many ids: 0 or 1 for a constant, and k + 2 for the id at k
abbrev pub IsNumber : List NodeId → ℕ → NodeId → ℕ → Type 0
IsNumber ids first id n =
    (IsConstant id × (n ≡ number_of id)) ⊎ ((k : ℕ) × (k < first) × (slice_get ids k ≡ Some id) × (n ≡ k + 2))

-- n is the number of an id
abbrev pub HasNumber : List NodeId → NodeId → ℕ → Type 0
HasNumber ids id n = IsNumber ids (length ids) id n

-- an entry is the node of the id at k: its children have numbers among the ids before it
pub record IsNodeOf (s : Table) (bits : ℕ) (ids : List NodeId) (k : ℕ) (id : NodeId) (e : Entry) : Type 0 where
  pub over : IsOver s bits id
  pub inner : ¬ IsConstant id
  pub level : e.level ≡ level_of s id
  pub lo : IsNumber ids k (node_of s id).lo e.lo
  pub hi : IsNumber ids k (node_of s id).hi e.hi

-- the entries are the nodes of the ids, and no id stands twice
pub record AreNumbered (s : Table) (bits : ℕ) (ids : List NodeId) (nodes : List Entry) : Type 0 where
  pub count : length nodes ≡ length ids
  pub each : (k : ℕ) (id : NodeId) (e : Entry) → slice_get ids k ≡ Some id → slice_get nodes k ≡ Some e →
      IsNodeOf s bits ids k id e
  pub once : (j k : ℕ) (id : NodeId) → slice_get ids j ≡ Some id → slice_get ids k ≡ Some id → j ≡ k

-- the ids that were there stay at their positions
pub record Stay (old new : List NodeId) : Type 0 where
  pub stay : (k : ℕ) (id : NodeId) → slice_get old k ≡ Some id → slice_get new k ≡ Some id

-- each id that was added stands at this depth or a greater one
abbrev pub AreDeeper : Table → ℕ → List NodeId → List NodeId → Type 0
AreDeeper s depth old new =
    (k : ℕ) (id : NodeId) → slice_get new k ≡ Some id → (slice_get old k ≡ Some id) ⊎ (depth ≤ depth_of s id)

-- n is the number of an id now: it was, or the id was added with all that it stands on
pub record Numbers (s : Table) (bits : ℕ) (id : NodeId) (old new : List NodeId) (nodes : List Entry) (n : ℕ) :
    Type 0 where
  pub numbered : AreNumbered s bits new nodes
  pub stay : Stay old new
  pub deeper : AreDeeper s (depth_of s id) old new
  pub number : HasNumber new id n
