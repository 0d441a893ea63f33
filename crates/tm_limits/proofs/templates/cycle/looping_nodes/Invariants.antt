use Rattle.tm_scope.specs.Graph.{graph_of}
use Rattle.tm_limits.proofs.Walks.{AreMarked}
use Rattle.tm_limits.proofs.templates.cycle.looping_nodes.Given as goal

abbrev pub invariant-loop-walked : goal.invariant-loop-walked
invariant-loop-walked l = AreMarked (graph_of l.graph) l.walk l.walked-index l.marks.items
