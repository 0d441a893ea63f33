use Rattle.std.proofs.Common.{◌≡◌}
use Rattle.tm_syntax.specs.Tree.View.{instance_tree}
use Rattle.tm_syntax.specs.Faults.Mismatches.{instance_faults}
use Rattle.tm_scope.specs.Context.{context_of}
use Rattle.tm_types.proofs.FoundPlaces.{found_before}
use Rattle.tm_types.proofs.mismatches.instances.instances_faults.Given as goal

abbrev pub invariant-loop-instance : goal.invariant-loop-instance
invariant-loop-instance l = l.first ≡ found_before (instance_faults (context_of l.at).spec (context_of l.at).template)
    instance_tree l.instances l.instance-index
