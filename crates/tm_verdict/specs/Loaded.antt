-- The ids of a certificate as diagrams of a game.
use Rattle.std.specs.Prelude.{◌≡◌, ℕ, List, Some, length, slice_get}
use Rattle.tm_dd.specs.declared.node.NodeId.{NodeId}
use Rattle.tm_dd.specs.Table.{Table}
use Rattle.tm_ddops.specs.Manager.{IsFunction}
use Rattle.tm_cert.specs.declared.cert.Entry.{Entry}
use Rattle.tm_cert.specs.Nodes.{ids_of}
use Rattle.tm_verdict.specs.Sets.{id_holds}

-- these are the diagrams of all ids of some entries, in order: each is true where its id holds
pub record AreLoaded (s : Table) (nodes : List Entry) (ids : List NodeId) : Type 0 where
  pub count : length ids ≡ ids_of nodes
  pub each : (k : ℕ) (id : NodeId) → slice_get ids k ≡ Some id → IsFunction s id (id_holds nodes k)
