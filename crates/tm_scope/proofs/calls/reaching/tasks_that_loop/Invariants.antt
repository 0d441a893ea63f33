use Rattle.tm_scope.specs.Inner.CallGraphs.{AreLooping}
use Rattle.tm_scope.proofs.calls.reaching.tasks_that_loop.Given as goal

abbrev pub invariant-loop-walked : goal.invariant-loop-walked
invariant-loop-walked l = AreLooping l.tasks l.nodes l.walked-index l.looping
