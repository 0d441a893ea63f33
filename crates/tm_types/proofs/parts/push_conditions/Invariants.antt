use Rattle.std.proofs.Common.{◌≡◌, ◌++◌, drop, map}
use Rattle.tm_syntax.specs.Tree.View.{named_tree}
use Rattle.tm_names.specs.Asked.{all_asked}
use Rattle.tm_types.specs.Inner.TextParts.{conditions_of}
use Rattle.tm_types.proofs.parts.push_conditions.Given as goal

abbrev pub invariant-loop-condition : goal.invariant-loop-condition
invariant-loop-condition l =
    all_asked l.asked.items ++ conditions_of (map named_tree (drop l.condition-index l.conditions))
    ≡ all_asked l.initial.asked.items ++ conditions_of (map named_tree l.conditions)
