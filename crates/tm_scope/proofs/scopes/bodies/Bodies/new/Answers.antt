use Rattle.std.proofs.Common.{map, ap, ◌∙◌}
use Rattle.tm_scope.specs.Inner.Tables.{process_slots, task_slots}
use Rattle.tm_scope.proofs.scopes.bodies.Bodies.new.Goals as goal

pub invariant_of-result : goal.invariant_of-result
invariant_of-result c = record {
  of_process = c.in_ok-processes.ensures ∙ ap (map process_slots) c.as_slice.ensures.value;
  of_task = c.in_ok-tasks.ensures ∙ ap (map task_slots) c.as_slice-2.ensures.value;
}
