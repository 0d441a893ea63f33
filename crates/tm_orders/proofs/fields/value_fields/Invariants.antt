use Rattle.std.proofs.Common.{◌≡◌, drop, map, take}
use Rattle.tm_orders.specs.Fields.{value_field}
use Rattle.tm_orders.proofs.fields.value_fields.Given as goal
use Rattle.tm_states.specs.States.{AreSized}
use Rattle.tm_syntax.specs.Tree.View.{spec_tree}

abbrev pub invariant-loop-var : goal.invariant-loop-var
invariant-loop-var l = record {
  sized : AreSized (drop l.var-index l.vars);
  so_far : l.all.items ≡ map (value_field (spec_tree l.scopes)) (take l.var-index l.vars);
}
