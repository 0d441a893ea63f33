use Rattle.std.proofs.Common.{◌≡◌, map, take}
use Rattle.std.specs.List.{flat_map}
use Rattle.std.specs.Option.{option_copied}
use Rattle.tm_limits.specs.LongNames.{expr_names, first_long}
use Rattle.tm_syntax.specs.Tree.View.{expr_tree}
use Rattle.tm_limits.proofs.names.first.exprs_long.Given as goal

abbrev pub invariant-loop-expr : goal.invariant-loop-expr
invariant-loop-expr l =
    option_copied l.first
    ≡ first_long (flat_map expr_names (map expr_tree (take l.expr-index l.exprs)))
