use Rattle.tm_scope.specs.Inner.CallGraphs.{AreOrdered}
use Rattle.tm_scope.proofs.calls.reaching.tasks_in_order.Given as goal

abbrev pub invariant-loop-walked : goal.invariant-loop-walked
invariant-loop-walked l = AreOrdered l.tasks l.nodes l.walked-index l.found.items
