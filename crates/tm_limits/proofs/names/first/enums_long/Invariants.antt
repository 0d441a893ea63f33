use Rattle.std.proofs.Common.{◌≡◌, ◌∷◌, map, take}
use Rattle.std.specs.List.{flat_map}
use Rattle.std.specs.Option.{option_copied}
use Rattle.tm_limits.specs.LongNames.{first_long}
use Rattle.tm_syntax.specs.Tree.{EnumTree}
use Rattle.tm_syntax.specs.Tree.View.{enum_tree}
use Rattle.tm_limits.proofs.names.first.enums_long.Given as goal

abbrev pub invariant-loop-def : goal.invariant-loop-def
invariant-loop-def l =
    option_copied l.first
    ≡ first_long (flat_map (λ (e : EnumTree). e.name ∷ e.constants) (map enum_tree (take l.def-index l.enums)))
