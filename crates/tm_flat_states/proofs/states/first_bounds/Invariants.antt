use Rattle.std.proofs.Common.{◌≡◌, drop, map, take}
use Rattle.tm_syntax.specs.Tree.View.{spec_tree}
use Rattle.tm_states.specs.States.{AreSized}
use Rattle.tm_flat_states.specs.Bounds.{first_bound}
use Rattle.tm_flat_states.proofs.states.first_bounds.Given as goal

abbrev pub invariant-loop-var : goal.invariant-loop-var
invariant-loop-var l = record {
  sized : AreSized (drop l.var-index l.vars);
  so_far : l.bounds.items ≡ map (first_bound (spec_tree l.scopes)) (take l.var-index l.vars);
}
