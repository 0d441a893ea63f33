-- What is found of an id among those that have entries. `ids` are these, in the order of their entries.
use Rattle.std.specs.Prelude.{◌≡◌, ℕ, List, Option, None, Some, slice_get}
use Rattle.tm_dd.specs.declared.node.NodeId.{NodeId}
use Rattle.tm_dd.specs.NodeId.{IsConstant}
use Rattle.tm_numbering.specs.Numbers.{HasNumber}

-- an id has no entry
abbrev pub IsAbsent : List NodeId → NodeId → Type 0
IsAbsent ids id = (k : ℕ) → ¬ (slice_get ids k ≡ Some id)

-- the number of an id, or that it has none
abbrev pub FoundNumber : List NodeId → NodeId → Option ℕ → Type 0
FoundNumber ids id None = ¬ IsConstant id × IsAbsent ids id
FoundNumber ids id (Some n) = HasNumber ids id n
