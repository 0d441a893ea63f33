-- What contracts see of a manager, and what holds of every manager.
use Rattle.std.specs.Prelude.{◌≡◌, ◌≢◌, ℕ, ◌≤◌, ◌⊎◌, Bool, List, length, Contains, AllPairs}
use Rattle.tm_dd.specs.declared.node.NodeId.{NodeId}
use Rattle.tm_dd.specs.Reduced.{IsReduced, Extends}
use Rattle.tm_dd.specs.Table.{Table, Knows, means}
use Rattle.tm_ddops.specs.declared.operation.Operation.{Operation}
use Rattle.tm_ddops.specs.Operation.{operands, operation_value}

-- the nodes of the store, and the remembered results, the one that was used last first
pub record Diagrams : Type 0 where
  pub table : Table
  pub results : List (Operation × NodeId)

-- an id is known and means a function of each level's value
pub record IsFunction (s : Table) (id : NodeId) (value : (ℕ → Bool) → Bool) : Type 0 where
  pub known : Knows s id
  pub meaning : (v : ℕ → Bool) → means s id v ≡ value v

-- an id is the result of an operation on known ids
pub record IsResult (s : Table) (operation : Operation) (id : NodeId) : Type 0 where
  pub operands_known : (f : NodeId) → Contains (operands operation) f → Knows s f
  pub function : IsFunction s id (operation_value s operation)

-- each remembered result is true
abbrev pub AreResults : Table → List (Operation × NodeId) → Type 0
AreResults s results = (operation : Operation) (id : NodeId) → Contains results (operation, id) →
    IsResult s operation id

-- a result is remembered
abbrev pub Remembers : Diagrams → Operation → NodeId → Type 0
Remembers m operation id = Contains m.results (operation, id)

-- how many results a manager remembers at most
abbrev pub most_results : ℕ
most_results = 65536

-- what holds of every manager: ids are canonical, each remembered result is true, none stands twice, and there are no
-- more than may be
pub record IsManager (m : Diagrams) : Type 0 where
  pub reduced : IsReduced m.table
  pub results : AreResults m.table m.results
  pub once : AllPairs (λ a b. a.0 ≢ b.0) m.results
  pub few : length m.results ≤ most_results

-- what a call that makes diagrams leaves: each id means what it meant, and a result is forgotten only where the list
-- is full
pub record Grows (old new : Diagrams) : Type 0 where
  pub extends : Extends old.table new.table
  pub results : (operation : Operation) (id : NodeId) → Remembers old operation id →
      Remembers new operation id ⊎ (length new.results ≡ most_results)
