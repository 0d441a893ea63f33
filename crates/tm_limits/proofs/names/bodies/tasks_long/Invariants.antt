use Rattle.std.proofs.Common.{◌≡◌, map, take}
use Rattle.std.specs.List.{flat_map}
use Rattle.std.specs.Option.{option_copied}
use Rattle.tm_limits.specs.LongNames.{body_names, first_long}
use Rattle.tm_syntax.specs.Tree.{TaskTree}
use Rattle.tm_syntax.specs.Tree.View.{task_tree}
use Rattle.tm_limits.proofs.names.bodies.tasks_long.Given as goal

abbrev pub invariant-loop-task : goal.invariant-loop-task
invariant-loop-task l =
    option_copied l.first
    ≡ first_long (flat_map (λ (k : TaskTree). body_names l.sought k.body) (map task_tree (take l.task-index l.tasks)))
