use Rattle.tm_syntax.specs.Tree.View.{spec_tree}
use Rattle.tm_scope.specs.Marks.{crosses_at}
use Rattle.tm_scope.proofs.TaskSets.{AreMarked}
use Rattle.tm_scope.proofs.calls.ordered.crossing_tasks.Given as goal

abbrev pub invariant-loop-task : goal.invariant-loop-task
invariant-loop-task l = AreMarked (crosses_at (spec_tree l.scopes)) l.order l.task-index l.tasks
