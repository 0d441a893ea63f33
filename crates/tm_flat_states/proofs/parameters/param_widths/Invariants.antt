use Rattle.std.proofs.Common.{◌≡◌, ◌≤◌, drop, map, take}
use Rattle.std.specs.Prelude.{All}
use Rattle.std.specs.List.{AllByRecursion}
use Rattle.tm_syntax.specs.declared.tree.Param.{Param}
use Rattle.tm_syntax.specs.Tree.View.{spec_tree}
use Rattle.tm_syntax.specs.Scopes.Names.{type_of}
use Rattle.tm_syntax.specs.Design.Sizes.{type_bits}
use Rattle.tm_typing.specs.HasType.{IsSized}
use Rattle.tm_flat.specs.Inputs.{room}
use Rattle.tm_flat_states.proofs.parameters.param_widths.Given as goal

abbrev pub invariant-loop-param : goal.invariant-loop-param
invariant-loop-param l = record {
  sized : AllByRecursion (λ (p : Param). IsSized (type_of p.ty)) (drop l.param-index l.params);
  so_far : l.widths.items
      ≡ map (λ (p : Param). type_bits (spec_tree l.scopes) (type_of p.ty)) (take l.param-index l.params);
  narrow : All (λ w. w ≤ room) l.widths.items;
}
