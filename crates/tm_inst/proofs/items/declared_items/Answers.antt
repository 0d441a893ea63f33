use Rattle.std.proofs.Common.{ℕ, map, arith}
use Rattle.tm_syntax.specs.Tree.View.{spec_tree}
use Rattle.tm_syntax.specs.Design.{instance_node}
use Rattle.tm_inst.specs.Inner.Listed.{lists_from, lists_of}
use Rattle.tm_inst.proofs.ItemSteps.{lists_all, lists_more}
use Rattle.tm_inst.proofs.items.declared_items.Goals as goal

pub loop-number-preserved : goal.loop-number-preserved
loop-number-preserved c =
    let spec = spec_tree c.args.spec.now in
    let i : ℕ = c.loop-number.number in
    lists_more spec c.args.instances.now i c.index-instances-number.result (lists_of c.loop-number.items)
    (lists_of c.push_instance.new.items) (lists_from spec 0 (map instance_node c.args.instances.now)) (omega arith)
    c.index-instances-number.is c.in_ok-push_instance.ensures c.loop-number.invariant

pub returns : goal.returns
returns c =
    let spec = spec_tree c.args.spec.now in
    lists_all spec c.args.instances.now c.loop-number.number (lists_of c.loop-number.items)
    (lists_from spec 0 (map instance_node c.args.instances.now)) (omega arith) c.loop-number.invariant
