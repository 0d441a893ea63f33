use Rattle.std.proofs.Common.{◌≡◌, ◌++◌, map, drop}
use Rattle.tm_syntax.specs.Tree.{TaskTree}
use Rattle.tm_syntax.specs.Tree.View.{task_tree}
use Rattle.tm_syntax.specs.Scopes.Pauses.{is_controllable}
use Rattle.tm_inst.specs.Inner.Listed.{items_from}
use Rattle.tm_inst.proofs.items.push_tasks.Given as goal

abbrev pub invariant-loop-index : goal.invariant-loop-index
invariant-loop-index l =
    l.items.items ++ items_from (λ (k : TaskTree). is_controllable k.kind)
    (λ (k : TaskTree). k.name) l.number l.base l.index (map task_tree (drop l.index l.tasks))
    ≡ l.initial.items.items ++ items_from (λ (k : TaskTree). is_controllable k.kind)
    (λ (k : TaskTree). k.name) l.number l.base 0 (map task_tree l.tasks)
