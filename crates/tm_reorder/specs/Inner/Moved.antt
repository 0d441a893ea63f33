-- The entries of a certificate as functions of the levels of another order. Here `order` is the certificate's order,
-- `bits` has the diagram of each place's bit, v gives each new level's value, and `see` each old one's.
use Rattle.std.specs.Prelude.{◌≡◌, ℕ, ◌+◌, ◌<◌, Bool, List, Some, length, slice_get, slice_index_or}
use Rattle.tm_cert.specs.declared.cert.Entry.{Entry}
use Rattle.tm_cert.specs.Nodes.{ids_of}
use Rattle.tm_dd.specs.declared.node.NodeId.{NodeId}
use Rattle.tm_dd.specs.declared.node.TheConstants.{FALSE}
use Rattle.tm_dd.specs.Reduced.{IsDeeper}
use Rattle.tm_dd.specs.Table.{Table, means}
use Rattle.tm_ddops.specs.Manager.{IsFunction}
use Rattle.tm_verdict.specs.Sets.{id_holds}

-- the values of the old levels: those of the bits of the places that the old order has for them
abbrev pub seen : Table → List ℕ → List NodeId → (ℕ → Bool) → ℕ → Bool
seen s order bits v level = means s (slice_index_or bits (slice_index_or order level 0) FALSE) v

-- an id is true where the number k of the entries holds
abbrev pub IsMoved : Table → ((ℕ → Bool) → ℕ → Bool) → List Entry → ℕ → NodeId → Type 0
IsMoved s see nodes k id = IsFunction s id (λ v. id_holds nodes k (see v))

-- these are the diagrams of the two constants and of the first so many entries
pub record AreFirstMoved (s : Table) (see : (ℕ → Bool) → ℕ → Bool) (nodes : List Entry) (done : ℕ)
    (ids : List NodeId) : Type 0 where
  pub count : length ids ≡ done + 2
  pub each : (k : ℕ) (id : NodeId) → slice_get ids k ≡ Some id → IsMoved s see nodes k id

-- these are the diagrams of all numbers of the entries
pub record AreMoved (s : Table) (see : (ℕ → Bool) → ℕ → Bool) (nodes : List Entry) (ids : List NodeId) :
    Type 0 where
  pub count : length ids ≡ ids_of nodes
  pub each : (k : ℕ) (id : NodeId) → slice_get ids k ≡ Some id → IsMoved s see nodes k id

-- a bit is the value of a level, which stands above two functions
pub record IsValueAbove (s : Table) (bit lo hi : NodeId) (level : ℕ) : Type 0 where
  pub below : level < s.levels
  pub lo_deeper : IsDeeper s level lo
  pub hi_deeper : IsDeeper s level hi
  pub value : (v : ℕ → Bool) → means s bit v ≡ v level
