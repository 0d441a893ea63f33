use Rattle.std.proofs.Common.{◌≡◌, map, take}
use Rattle.std.specs.List.{flat_map}
use Rattle.std.specs.Option.{option_copied}
use Rattle.tm_limits.specs.LongNames.{expr_names, first_long}
use Rattle.tm_syntax.specs.Tree.{NamedTree}
use Rattle.tm_syntax.specs.Tree.View.{named_tree}
use Rattle.tm_limits.proofs.names.bodies.named_long.Given as goal

abbrev pub invariant-loop-condition : goal.invariant-loop-condition
invariant-loop-condition l =
    option_copied l.first
    ≡ first_long (flat_map (λ (n : NamedTree). expr_names n.expr)
    (map named_tree (take l.condition-index l.conditions)))
