-- The values and variables go along where those that are left do.
use Rattle.std.proofs.Common.{◌<◌, drop}
use Rattle.std.specs.List.{AllZip}
use Rattle.tm_syntax.specs.declared.design.Var.{Var}
use Rattle.tm_syntax.specs.Tree.View.{spec_tree}
use Rattle.tm_syntax.specs.Design.Sizes.{type_size}
use Rattle.tm_states.specs.States.{AreSized}
use Rattle.tm_states.proofs.validity.values_fit.Given as goal

abbrev pub invariant-loop-index : goal.invariant-loop-index
invariant-loop-index l = record {
  sized : AreSized (drop l.index l.vars);
  whole : AllZip (λ (v : Var) n. n < type_size (spec_tree l.scopes) v.ty) (drop l.index l.vars)
      (drop l.index l.values) →
      AllZip (λ (v : Var) n. n < type_size (spec_tree l.scopes) v.ty) l.vars l.values;
  left : AllZip (λ (v : Var) n. n < type_size (spec_tree l.scopes) v.ty) l.vars l.values →
      AllZip (λ (v : Var) n. n < type_size (spec_tree l.scopes) v.ty) (drop l.index l.vars)
      (drop l.index l.values);
}
