use Rattle.std.proofs.Common.{◌≡◌, ◌++◌, take}
use Rattle.tm_scope.specs.Inner.Walks.{walked_nodes}
use Rattle.tm_scope.proofs.graph.walk.leave.Given as goal

abbrev pub invariant-loop-node : goal.invariant-loop-node
invariant-loop-node l =
    l.order.items ≡ l.initial.order.items ++ walked_nodes l.loops (take l.node-index l.nodes)
