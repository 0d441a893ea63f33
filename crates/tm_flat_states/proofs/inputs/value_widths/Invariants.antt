use Rattle.std.proofs.Common.{◌≡◌, drop, map, take}
use Rattle.tm_syntax.specs.declared.design.Var.{Var}
use Rattle.tm_syntax.specs.Tree.View.{spec_tree}
use Rattle.tm_syntax.specs.Design.Sizes.{type_bits}
use Rattle.tm_states.specs.States.{AreSized}
use Rattle.tm_flat_states.proofs.inputs.value_widths.Given as goal

abbrev pub invariant-loop-var : goal.invariant-loop-var
invariant-loop-var l = record {
  sized : AreSized (drop l.var-index l.vars);
  so_far : l.widths.items ≡ map (λ (v : Var). type_bits (spec_tree l.scopes) v.ty) (take l.var-index l.vars);
}
