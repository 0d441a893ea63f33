-- The diagrams of the first ids.
use Rattle.std.specs.Prelude.{◌≡◌, ℕ, ◌+◌, ◌<◌, List, Some, length, slice_get}
use Rattle.tm_dd.specs.declared.node.NodeId.{NodeId}
use Rattle.tm_dd.specs.Reduced.{IsDeeper}
use Rattle.tm_dd.specs.Table.{Table}
use Rattle.tm_ddops.specs.Manager.{IsFunction}
use Rattle.tm_cert.specs.declared.cert.Entry.{Entry}
use Rattle.tm_cert.specs.CertValue.{IsAboveChild}
use Rattle.tm_verdict.specs.Sets.{id_holds}

-- an id is the diagram of an id of some entries over so many levels, below all of these that are above its entry's
pub record IsLoaded (s : Table) (bits : ℕ) (nodes : List Entry) (k : ℕ) (id : NodeId) : Type 0 where
  pub function : IsFunction s id (id_holds nodes k)
  pub deep : (level : ℕ) → level < bits → IsAboveChild nodes level k → IsDeeper s level id

-- these are the diagrams of the constants and of the first entries
pub record AreFirst (s : Table) (bits : ℕ) (nodes : List Entry) (done : ℕ) (ids : List NodeId) : Type 0 where
  pub count : length ids ≡ done + 2
  pub each : (k : ℕ) (id : NodeId) → slice_get ids k ≡ Some id → IsLoaded s bits nodes k id
