use Rattle.std.proofs.Common.{◌≡◌, map, take}
use Rattle.tm_scope.specs.Inner.Tables.{task_slots}
use Rattle.tm_scope.proofs.scopes.bodies.bodies_of_tasks.Given as goal

abbrev pub invariant-loop-task : goal.invariant-loop-task
invariant-loop-task l = l.bodies.items ≡ map task_slots (take l.task-index l.tasks)
