use Rattle.std.proofs.Common.{◌≡◌}
use Rattle.tm_syntax.specs.Tree.View.{var_tree}
use Rattle.tm_syntax.specs.Faults.Literals.{var_numbers}
use Rattle.tm_types.proofs.FoundPlaces.{found_before}
use Rattle.tm_types.proofs.literals.declared.vars_numbers.Given as goal

abbrev pub invariant-loop-var : goal.invariant-loop-var
invariant-loop-var l = l.first ≡ found_before var_numbers var_tree l.vars l.var-index
