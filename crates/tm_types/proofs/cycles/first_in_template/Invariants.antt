use Rattle.std.proofs.Common.{◌≡◌}
use Rattle.std.specs.Option.{option_map}
use Rattle.tm_syntax.specs.Tree.View.{task_tree}
use Rattle.tm_types.specs.Inner.Looping.{looping_mark, task_mark}
use Rattle.tm_names.specs.ScopeNames.{mark_of}
use Rattle.tm_types.proofs.NumberedParts.{either, first_from}
use Rattle.tm_types.proofs.cycles.first_in_template.Given as goal

abbrev pub invariant-loop-index : goal.invariant-loop-index
invariant-loop-index l =
    either (option_map mark_of l.first)
    (first_from task_tree (λ k. looping_mark l.looping (task_mark l.number k)) l.template.tasks.items l.index)
    ≡ first_from task_tree (λ k. looping_mark l.looping (task_mark l.number k)) l.template.tasks.items 0
