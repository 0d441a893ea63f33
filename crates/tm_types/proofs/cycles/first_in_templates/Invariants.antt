use Rattle.std.proofs.Common.{◌≡◌}
use Rattle.std.specs.List.{flat_map}
use Rattle.std.specs.Option.{option_map}
use Rattle.tm_syntax.specs.Tree.View.{template_tree}
use Rattle.tm_syntax.specs.Faults.Cycles.{template_tasks}
use Rattle.tm_types.specs.Inner.Looping.{looping_mark}
use Rattle.tm_names.specs.ScopeNames.{mark_of}
use Rattle.tm_types.proofs.NumberedParts.{either, first_from}
use Rattle.tm_types.proofs.cycles.first_in_templates.Given as goal

abbrev pub invariant-loop-number : goal.invariant-loop-number
invariant-loop-number l =
    either (option_map mark_of l.first)
    (first_from template_tree (λ t. flat_map (looping_mark l.looping) (template_tasks t)) l.templates l.number)
    ≡ first_from template_tree (λ t. flat_map (looping_mark l.looping) (template_tasks t)) l.templates 0
