use Rattle.std.proofs.Common.{◌≡◌, ◌++◌, drop}
use Rattle.std.specs.List.{flat_map}
use Rattle.tm_names.specs.Parts.{listed_types}
use Rattle.tm_names.specs.Inner.WrittenTypes.{task_types}
use Rattle.tm_names.proofs.parts.types.push_task_types.Given as goal

abbrev pub invariant-loop-task : goal.invariant-loop-task
invariant-loop-task l =
    listed_types l.types.items ++ flat_map task_types (drop l.task-index l.tasks)
    ≡ listed_types l.initial.types.items ++ flat_map task_types l.tasks
