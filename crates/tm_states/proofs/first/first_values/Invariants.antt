-- The values so far, and those of the variables that are left, are those of all.
use Rattle.std.proofs.Common.{◌≡◌, ◌++◌, drop}
use Rattle.std.specs.Option.{option_map}
use Rattle.tm_syntax.specs.Tree.View.{spec_tree}
use Rattle.tm_sem.specs.First.{first_values}
use Rattle.tm_states.specs.States.{AreSized}
use Rattle.tm_states.proofs.first.first_values.Given as goal

abbrev pub invariant-loop-var : goal.invariant-loop-var
invariant-loop-var l = record {
  sized : AreSized (drop l.var-index l.vars);
  so_far : first_values (spec_tree l.scopes) l.vars l.choices
      ≡ option_map (λ ns. l.values.items ++ ns) (first_values (spec_tree l.scopes) (drop l.var-index l.vars) l.left);
}
