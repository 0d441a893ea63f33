use Rattle.std.proofs.Common.{◌+◌, ◌*◌, drop, get_or, map}
use Rattle.std.specs.Prelude.{sum_by}
use Rattle.tm_syntax.specs.Tree.View.{instance_tree, spec_tree}
use Rattle.tm_inst.specs.Instances.{held_size}
use Rattle.tm_syntax.specs.Design.{instance_node}
use Rattle.tm_inst.proofs.Growing.{HeldSoFar}
use Rattle.tm_inst.proofs.instances.+growth.Given as goal

abbrev pub decreases-add_instance : goal.decreases-add_instance
decreases-add_instance l = 3 * get_or l.sizes.now l.template 0

abbrev pub decreases-add_held : goal.decreases-add_held
decreases-add_held l = 3 * held_size (spec_tree l.scopes.now) l.sizes.now (instance_tree l.held.now) + 1

abbrev pub decreases-add_all_held : goal.decreases-add_all_held
decreases-add_all_held l = 3 * sum_by (held_size (spec_tree l.scopes.now) l.sizes.now)
    (map instance_tree l.held.now) + 2

abbrev pub invariant-add_all_held-loop-one : goal.invariant-add_all_held-loop-one
invariant-add_all_held-loop-one l =
    HeldSoFar (spec_tree l.scopes) l.sizes l.holder (map instance_node l.initial.nodes.items)
    (map instance_node l.nodes.items) (map instance_tree l.held) (map instance_tree (drop l.one-index l.held))
