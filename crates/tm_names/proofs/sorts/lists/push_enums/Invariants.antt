use Rattle.std.proofs.Common.{◌≡◌, ◌++◌, drop}
use Rattle.std.specs.List.{flat_map}
use Rattle.tm_syntax.specs.declared.tree.EnumDef.{EnumDef}
use Rattle.tm_syntax.specs.Tree.View.{enum_tree}
use Rattle.tm_names.specs.Inner.ScopeParts.{enum_names}
use Rattle.tm_names.specs.Sorts.{all_declared}
use Rattle.tm_names.proofs.sorts.lists.push_enums.Given as goal

abbrev pub invariant-loop-def : goal.invariant-loop-def
invariant-loop-def l =
    all_declared l.all.items ++ flat_map (λ (e : EnumDef). enum_names (enum_tree e)) (drop l.def-index l.enums)
    ≡ all_declared l.initial.all.items ++ flat_map (λ (e : EnumDef). enum_names (enum_tree e)) l.enums
