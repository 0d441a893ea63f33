use Rattle.std.proofs.Common.{◌+◌, length}
use Rattle.tm_scope.specs.Graph.{graph_of}
use Rattle.tm_scope.specs.Inner.Walks.{AreBusy, IsWalkOf, left_over}
use Rattle.tm_scope.proofs.graph.walk_graph.Given as goal

abbrev pub invariant-loop-node : goal.invariant-loop-node
invariant-loop-node l = IsWalkOf (graph_of l.edges) l.walk × AreBusy l.walk

abbrev pub decreases-loop-node : goal.decreases-loop-node
decreases-loop-node l = left_over (graph_of l.edges) l.walk.opened.items + length l.walk.pending.items
