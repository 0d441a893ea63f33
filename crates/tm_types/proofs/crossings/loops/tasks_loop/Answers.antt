use Rattle.std.proofs.Common.{arith}
use Rattle.tm_syntax.specs.Tree.{TaskTree}
use Rattle.tm_syntax.specs.Tree.View.{task_tree}
use Rattle.tm_scope.specs.Marks.{is_marked}
use Rattle.tm_types.specs.Inner.Crossings.{body_loops}
use Rattle.tm_types.proofs.FoundPlaces.{found_all, found_more}
use Rattle.tm_types.proofs.crossings.loops.tasks_loop.Goals as goal

pub loop-task-preserved : goal.loop-task-preserved
loop-task-preserved c =
    found_more (λ (x : TaskTree). body_loops (is_marked c.args.calls.now) x.body) task_tree c.args.tasks.now
    c.loop-task.task-index c.task-item.result (omega arith) c.task-item.is c.in-Ok.ensures
    c.earlier_place-first.ensures.earlier c.loop-task.invariant

pub returns : goal.returns
returns c =
    found_all (λ (x : TaskTree). body_loops (is_marked c.args.calls.now) x.body) task_tree c.args.tasks.now
    c.loop-task.task-index (omega arith) c.loop-task.invariant
