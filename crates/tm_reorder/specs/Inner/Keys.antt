-- The ids of the sets of certificates, and their diagrams. Here s is the table of a store, `see` gives each old level's
-- value by those of the new ones, `nodes` are the old entries, and `keys` the ids of sets.
use Rattle.std.specs.Prelude.{◌≡◌, ℕ, Bool, List, ◌∷◌, Some, length, map, slice_get}
use Rattle.std.specs.List.{flat_map}
use Rattle.tm_cert.specs.declared.cert.Entry.{Entry}
use Rattle.tm_cert.specs.declared.cert.Rank.{Rank}
use Rattle.tm_cert.specs.Cert.{LevelData}
use Rattle.tm_cert.specs.Nodes.{ids_of}
use Rattle.tm_dd.specs.declared.node.NodeId.{NodeId}
use Rattle.tm_dd.specs.Table.{Table, Knows}
use Rattle.tm_reorder.specs.Inner.Moved.{IsMoved}

-- those of ranks
abbrev pub rank_keys : List Rank → List ℕ
rank_keys ranks = map (λ (r : Rank). r.set) ranks

-- those of a driver's certificate
abbrev pub driver_keys : ℕ → List (List Rank) → List ℕ
driver_keys region goals = region ∷ flat_map rank_keys goals

-- those of chains
abbrev pub chain_keys : List (List ℕ) → List ℕ
chain_keys chains = flat_map (λ (chain : List ℕ). chain) chains

-- those of a level of an environment's certificate
abbrev pub level_keys : LevelData → List ℕ
level_keys l = l.set ∷ chain_keys l.chains

-- those of all levels
abbrev pub environment_keys : List LevelData → List ℕ
environment_keys levels = flat_map level_keys levels

-- where an id is one of the keys, its diagram is the moved one; all diagrams are known
pub record AreKeyed (s : Table) (see : (ℕ → Bool) → ℕ → Bool) (nodes : List Entry) (keys : List ℕ)
    (ids : List NodeId) : Type 0 where
  pub count : length ids ≡ ids_of nodes
  pub known : (k : ℕ) (id : NodeId) → slice_get ids k ≡ Some id → Knows s id
  pub each : (i k : ℕ) (id : NodeId) → slice_get keys i ≡ Some k → slice_get ids k ≡ Some id → IsMoved s see nodes k id

-- among the diagrams that were loaded, those of the values are the moved ones of the keys; all are known
pub record AreFound (s : Table) (see : (ℕ → Bool) → ℕ → Bool) (nodes : List Entry) (keys values : List ℕ)
    (loaded : List NodeId) : Type 0 where
  pub known : (n : ℕ) (id : NodeId) → slice_get loaded n ≡ Some id → Knows s id
  pub each : (i k n : ℕ) (id : NodeId) → slice_get keys i ≡ Some k → slice_get values i ≡ Some n →
      slice_get loaded n ≡ Some id → IsMoved s see nodes k id
