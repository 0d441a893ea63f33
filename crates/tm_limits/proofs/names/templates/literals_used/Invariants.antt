use Rattle.std.proofs.Common.{◌≡◌, map, take}
use Rattle.std.specs.List.{flat_map}
use Rattle.std.specs.Option.{option_copied, option_to_list}
use Rattle.tm_limits.specs.LongNames.{expr_names, first_long}
use Rattle.tm_syntax.specs.Tree.{VarTree}
use Rattle.tm_syntax.specs.Tree.View.{var_tree}
use Rattle.tm_limits.proofs.names.templates.literals_used.Given as goal

abbrev pub invariant-loop-var : goal.invariant-loop-var
invariant-loop-var l =
    option_copied l.first
    ≡ first_long (flat_map (λ (v : VarTree). flat_map expr_names (option_to_list v.init))
    (map var_tree (take l.var-index l.vars)))
