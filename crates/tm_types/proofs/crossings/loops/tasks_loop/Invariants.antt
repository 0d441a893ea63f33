use Rattle.std.proofs.Common.{◌≡◌}
use Rattle.tm_syntax.specs.Tree.{TaskTree}
use Rattle.tm_syntax.specs.Tree.View.{task_tree}
use Rattle.tm_scope.specs.Marks.{is_marked}
use Rattle.tm_types.specs.Inner.Crossings.{body_loops}
use Rattle.tm_types.proofs.FoundPlaces.{found_before}
use Rattle.tm_types.proofs.crossings.loops.tasks_loop.Given as goal

abbrev pub invariant-loop-task : goal.invariant-loop-task
invariant-loop-task l =
    l.first
    ≡ found_before (λ (x : TaskTree). body_loops (is_marked l.calls) x.body) task_tree l.tasks l.task-index
