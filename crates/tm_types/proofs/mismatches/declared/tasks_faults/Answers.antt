use Rattle.std.proofs.Common.{arith}
use Rattle.tm_syntax.specs.Tree.View.{task_tree}
use Rattle.tm_syntax.specs.Faults.Mismatches.{task_faults}
use Rattle.tm_types.proofs.FoundPlaces.{found_all, found_more}
use Rattle.tm_types.proofs.mismatches.declared.tasks_faults.Goals as goal

pub loop-task-preserved : goal.loop-task-preserved
loop-task-preserved c =
    found_more task_faults task_tree c.args.tasks.now c.loop-task.task-index c.task-item.result (omega arith)
    c.task-item.is c.task_faults.ensures c.earlier_place-first.ensures.earlier c.loop-task.invariant

pub returns : goal.returns
returns c =
    found_all task_faults task_tree c.args.tasks.now c.loop-task.task-index (omega arith) c.loop-task.invariant
