use Rattle.std.proofs.Common.{◌≡◌}
use Rattle.std.specs.List.{flat_map}
use Rattle.std.specs.Option.{option_map, option_to_list}
use Rattle.tm_syntax.specs.Tree.{VarTree}
use Rattle.tm_syntax.specs.Tree.View.{spec_tree, var_tree}
use Rattle.tm_syntax.specs.Faults.Names.{unknown_literal}
use Rattle.tm_names.specs.ScopeNames.{mark_of}
use Rattle.tm_types.proofs.FoundNames.{found_before}
use Rattle.tm_types.proofs.unknown.declared.unknown_inits.Given as goal

abbrev pub invariant-loop-var : goal.invariant-loop-var
invariant-loop-var l =
    option_map mark_of l.first
    ≡ found_before (λ (v : VarTree). flat_map (unknown_literal (spec_tree l.names)) (option_to_list v.init)) var_tree
    l.vars l.var-index
