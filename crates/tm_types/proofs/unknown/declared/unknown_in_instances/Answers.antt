use Rattle.std.proofs.Common.{arith}
use Rattle.tm_syntax.specs.Tree.View.{instance_tree}
use Rattle.tm_syntax.specs.Faults.Names.{unknown_in_instance}
use Rattle.tm_scope.specs.Context.{context_of}
use Rattle.tm_types.proofs.FoundNames.{found_all, found_more}
use Rattle.tm_types.proofs.unknown.declared.unknown_in_instances.Goals as goal

pub loop-instance-preserved : goal.loop-instance-preserved
loop-instance-preserved c =
    let at = context_of c.args.site.now in
    found_more (unknown_in_instance at.spec at.template) instance_tree c.args.instances.now
    c.loop-instance.instance-index c.instance-item.result (omega arith) c.instance-item.is
    c.unknown_in_instance.ensures c.earlier_mark-first.ensures c.loop-instance.invariant

pub returns : goal.returns
returns c =
    let at = context_of c.args.site.now in
    found_all (unknown_in_instance at.spec at.template) instance_tree c.args.instances.now
    c.loop-instance.instance-index (omega arith) c.loop-instance.invariant
