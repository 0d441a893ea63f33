use Rattle.std.proofs.Common.{◌≡◌, ◌++◌, map, drop}
use Rattle.std.specs.List.{flat_map}
use Rattle.tm_syntax.specs.Tree.View.{spec_tree, var_tree}
use Rattle.tm_syntax.specs.Design.{declared_vars}
use Rattle.tm_inst.proofs.vars.push_declared_vars.Given as goal

abbrev pub invariant-loop-var : goal.invariant-loop-var
invariant-loop-var l =
    l.vars.items ++ flat_map (declared_vars (spec_tree l.scopes) l.number l.base)
    (map var_tree (drop l.var-index l.declared))
    ≡ l.initial.vars.items ++ flat_map (declared_vars (spec_tree l.scopes) l.number l.base) (map var_tree l.declared)
