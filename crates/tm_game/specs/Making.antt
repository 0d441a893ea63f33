-- What the call that makes a node answers and leaves, as that of the manager does: all but what is said of the counter.
-- old and new are the diagrams before and after the call, and answer is what it answers.
use Rattle.std.specs.Prelude.{◌≡◌, ◌+◌, ◌≤◌, ◌⊎◌, Ok, IfOk, OnErr}
use Rattle.tm_dd.specs.declared.node.Node.{Node}
use Rattle.tm_dd.specs.declared.node.NodeId.{NodeId}
use Rattle.tm_dd.specs.NodeId.{complement}
use Rattle.tm_dd.specs.Reduced.{MeansNode}
use Rattle.tm_dd.specs.Table.{Knows, kept}
use Rattle.tm_ddops.specs.Manager.{Diagrams}
use Rattle.tm_ddops.specs.Remembering.{Answer}

-- a node is made: a function that was known has its id, and nothing is added for it; another one adds one node, for
-- itself and its complement; and no result is remembered or forgotten
pub record MakesNode (n : Node) (old new : Diagrams) (answer : Answer) : Type 0 where
  pub equal : n.lo ≡ n.hi → answer ≡ Ok n.lo
  pub found : (id : NodeId) → Knows old.table id → MeansNode old.table id n → answer ≡ Ok id
  pub unchanged : (id : NodeId) → Knows old.table id → MeansNode old.table id n → new ≡ old
  pub added : IfOk answer (λ r. (id : NodeId) → Knows new.table id →
      Knows old.table id ⊎ ((id ≡ r) ⊎ (id ≡ complement r)))
  pub adds : kept new.table ≤ kept old.table + 1
  pub results : new.results ≡ old.results
  pub refused : OnErr answer (new ≡ old)
