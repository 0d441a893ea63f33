use Rattle.std.proofs.Common.{◌≡◌, ◌++◌, map, drop}
use Rattle.std.specs.List.{enumerate_from, flat_map}
use Rattle.tm_syntax.specs.Tree.View.{spec_tree}
use Rattle.tm_syntax.specs.Design.{instance_node, instance_vars}
use Rattle.tm_inst.proofs.vars.variables.Given as goal

abbrev pub invariant-loop-number : goal.invariant-loop-number
invariant-loop-number l =
    l.vars.items
    ++ flat_map (instance_vars (spec_tree l.scopes))
    (enumerate_from l.number (map instance_node (drop l.number l.instances)))
    ≡ flat_map (instance_vars (spec_tree l.scopes)) (enumerate_from 0 (map instance_node l.instances))
