use Rattle.std.proofs.Common.{arith}
use Rattle.tm_syntax.specs.Tree.View.{instance_tree}
use Rattle.tm_syntax.specs.Faults.Mismatches.{instance_faults}
use Rattle.tm_scope.specs.Context.{context_of}
use Rattle.tm_types.proofs.FoundPlaces.{found_all, found_more}
use Rattle.tm_types.proofs.mismatches.instances.instances_faults.Goals as goal

pub loop-instance-preserved : goal.loop-instance-preserved
loop-instance-preserved c =
    found_more (instance_faults (context_of c.args.at.now).spec (context_of c.args.at.now).template) instance_tree
    c.args.instances.now c.loop-instance.instance-index c.instance-item.result (omega arith) c.instance-item.is
    c.instance_faults.ensures c.earlier_place-first.ensures.earlier c.loop-instance.invariant

pub returns : goal.returns
returns c =
    found_all (instance_faults (context_of c.args.at.now).spec (context_of c.args.at.now).template) instance_tree
    c.args.instances.now c.loop-instance.instance-index (omega arith) c.loop-instance.invariant
