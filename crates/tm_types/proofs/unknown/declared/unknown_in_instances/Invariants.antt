use Rattle.std.proofs.Common.{◌≡◌}
use Rattle.std.specs.Option.{option_map}
use Rattle.tm_syntax.specs.Tree.View.{instance_tree}
use Rattle.tm_syntax.specs.Faults.Names.{unknown_in_instance}
use Rattle.tm_scope.specs.Context.{context_of}
use Rattle.tm_names.specs.ScopeNames.{mark_of}
use Rattle.tm_types.proofs.FoundNames.{found_before}
use Rattle.tm_types.proofs.unknown.declared.unknown_in_instances.Given as goal

abbrev pub invariant-loop-instance : goal.invariant-loop-instance
invariant-loop-instance l =
    option_map mark_of l.first
    ≡ found_before (unknown_in_instance (context_of l.site).spec (context_of l.site).template) instance_tree
    l.instances l.instance-index
