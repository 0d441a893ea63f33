use Rattle.tm_syntax.specs.Tree.View.{spec_tree}
use Rattle.tm_limits.specs.TaskBodies.{HasPaths}
use Rattle.tm_limits.proofs.tasks.task_paths.Given as goal

abbrev pub invariant-loop-task : goal.invariant-loop-task
invariant-loop-task l = HasPaths (spec_tree l.scopes) l.order l.task-index l.paths.entries
