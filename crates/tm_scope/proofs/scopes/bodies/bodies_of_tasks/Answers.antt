use Rattle.std.proofs.Common.{◌≡◌, map, ap, ◌∙◌, arith}
use Rattle.std.proofs.lemmas.List.{take_all}
use Rattle.tm_scope.specs.Inner.Tables.{task_slots}
use Rattle.tm_scope.proofs.Fills.{filled_more}
use Rattle.tm_scope.proofs.scopes.bodies.bodies_of_tasks.Goals as goal

pub loop-task-init : goal.loop-task-init
loop-task-init c = c.new-bodies.ensures.items

pub loop-task-preserved : goal.loop-task-preserved
loop-task-preserved c =
    let made : c.in_ok-new.field-0 ≡ task_slots c.task-item.result =
    c.in_ok-new.ensures
    ∙ (λ i. record { params = c.as_slice.ensures.value i; locals = c.as_slice-in-loop-task.ensures.value i }) in
    filled_more task_slots c.args.tasks.now c.loop-task.task-index c.task-item.result c.loop-task.bodies.items
    c.push.new.self.items c.in_ok-new.field-0 (omega arith) c.task-item.is made c.in_ok-push.ensures.items
    c.loop-task.invariant

pub returns : goal.returns
returns c =
    c.loop-task.invariant ∙ ap (map task_slots) (take_all c.loop-task.task-index c.args.tasks.now (omega arith))
