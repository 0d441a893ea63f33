use Rattle.std.proofs.Common.{refl, arith}
use Rattle.tm_syntax.specs.Tree.View.{task_tree}
use Rattle.tm_scope.specs.Marks.{is_marked}
use Rattle.tm_types.specs.Inner.Crossings.{task_locations_by}
use Rattle.tm_types.proofs.FoundPlaces.{found_listed, found_more}
use Rattle.tm_types.proofs.crossings.locations.template_location.Goals as goal

pub loop-task-preserved : goal.loop-task-preserved
loop-task-preserved c =
    found_more (task_locations_by (is_marked c.args.calls.now)) task_tree c.as_slice-task-items.result.now
    c.loop-task.task-index c.task-item.result (omega arith) c.task-item.is c.in-Ok.ensures
    c.earlier_place-first.ensures.earlier c.loop-task.invariant

pub returns : goal.returns
returns c =
    found_listed (task_locations_by (is_marked c.args.calls.now)) task_tree c.as_slice-task-items.result.now
    c.args.template.now.tasks.items _ c.loop-task.task-index c.as_slice-task-items.ensures.value refl (omega arith)
    c.loop-task.invariant
