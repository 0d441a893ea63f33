use Rattle.std.proofs.Common.{◌≡◌}
use Rattle.tm_syntax.specs.Tree.View.{task_tree}
use Rattle.tm_syntax.specs.Faults.Mismatches.{task_faults}
use Rattle.tm_types.proofs.FoundPlaces.{found_before}
use Rattle.tm_types.proofs.mismatches.declared.tasks_faults.Given as goal

abbrev pub invariant-loop-task : goal.invariant-loop-task
invariant-loop-task l = l.first ≡ found_before task_faults task_tree l.tasks l.task-index
