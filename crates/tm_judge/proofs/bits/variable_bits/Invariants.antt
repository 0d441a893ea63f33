-- The bits of the variables so far.
use Rattle.std.proofs.Common.{◌≡◌, drop, take}
use Rattle.std.specs.Prelude.{sum_by}
use Rattle.tm_syntax.specs.declared.design.Var.{Var}
use Rattle.tm_syntax.specs.Tree.View.{spec_tree}
use Rattle.tm_syntax.specs.Design.Sizes.{type_bits}
use Rattle.tm_states.specs.States.{AreSized}
use Rattle.tm_judge.proofs.bits.variable_bits.Given as goal

abbrev pub invariant-loop-var : goal.invariant-loop-var
invariant-loop-var l = record {
  sized : AreSized (drop l.var-index l.vars);
  so_far : l.bits ≡ sum_by (λ (v : Var). type_bits (spec_tree l.scopes) v.ty) (take l.var-index l.vars);
}
