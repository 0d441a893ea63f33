use Rattle.std.proofs.Common.{◌≡◌, ◌∷◌, ◌++◌, map, take}
use Rattle.std.specs.List.{flat_map}
use Rattle.std.specs.Option.{option_copied}
use Rattle.tm_limits.specs.LongNames.{first_long}
use Rattle.tm_syntax.specs.Tree.{LocalTree, TaskTree}
use Rattle.tm_syntax.specs.Tree.View.{task_tree}
use Rattle.tm_syntax.specs.declared.tree.Param.{Param}
use Rattle.tm_limits.proofs.names.templates.tasks_declared.Given as goal

abbrev pub invariant-loop-task : goal.invariant-loop-task
invariant-loop-task l =
    option_copied l.first
    ≡ first_long (flat_map (λ (k : TaskTree). k.name ∷ map (λ (p : Param). p.name) k.params ++ map
    (λ (l : LocalTree). l.name) k.body.locals) (map task_tree (take l.task-index l.tasks)))
