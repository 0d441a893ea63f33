use Rattle.std.proofs.Common.{◌≡◌, map, drop}
use Rattle.tm_syntax.specs.Tree.View.{spec_tree}
use Rattle.tm_syntax.specs.Design.{instance_node}
use Rattle.tm_inst.specs.Inner.Listed.{joined, lists_from, lists_of}
use Rattle.tm_inst.proofs.items.declared_items.Given as goal

abbrev pub invariant-loop-number : goal.invariant-loop-number
invariant-loop-number l =
    joined (lists_of l.items) (lists_from (spec_tree l.spec) l.number (map instance_node (drop l.number l.instances)))
    ≡ lists_from (spec_tree l.spec) 0 (map instance_node l.instances)
