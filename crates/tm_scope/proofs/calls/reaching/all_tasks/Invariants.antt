use Rattle.tm_scope.proofs.TextTasks.{AreTasksBelow}
use Rattle.tm_scope.proofs.calls.reaching.all_tasks.Given as goal

abbrev pub invariant-loop-number : goal.invariant-loop-number
invariant-loop-number l = AreTasksBelow l.spec l.number l.tasks
