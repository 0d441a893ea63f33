use Rattle.tm_scope.proofs.AddedTasks.{AreAdded}
use Rattle.tm_scope.proofs.calls.reaching.add_tasks.Given as goal

abbrev pub invariant-loop-index : goal.invariant-loop-index
invariant-loop-index l = AreAdded l.initial.tasks l.template l.index l.tasks
