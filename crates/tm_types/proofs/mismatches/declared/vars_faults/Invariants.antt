use Rattle.std.proofs.Common.{◌≡◌}
use Rattle.tm_syntax.specs.Tree.View.{var_tree}
use Rattle.tm_syntax.specs.Faults.Mismatches.{var_faults}
use Rattle.tm_scope.specs.Context.{context_of}
use Rattle.tm_types.proofs.FoundPlaces.{found_before}
use Rattle.tm_types.proofs.mismatches.declared.vars_faults.Given as goal

abbrev pub invariant-loop-var : goal.invariant-loop-var
invariant-loop-var l = l.first ≡ found_before (var_faults (context_of l.at).spec) var_tree l.vars l.var-index
