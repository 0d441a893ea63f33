use Rattle.std.proofs.Common.{◌≡◌, map, take}
use Rattle.std.specs.List.{flat_map}
use Rattle.std.specs.Option.{option_copied}
use Rattle.tm_limits.specs.LongNames.{first_long}
use Rattle.tm_syntax.specs.Faults.Limits.{type_names}
use Rattle.tm_syntax.specs.Tree.{VarTree}
use Rattle.tm_syntax.specs.Tree.View.{var_tree}
use Rattle.tm_limits.proofs.names.templates.vars_types.Given as goal

abbrev pub invariant-loop-var : goal.invariant-loop-var
invariant-loop-var l =
    option_copied l.first
    ≡ first_long (flat_map (λ (v : VarTree). type_names v.ty) (map var_tree (take l.var-index l.vars)))
