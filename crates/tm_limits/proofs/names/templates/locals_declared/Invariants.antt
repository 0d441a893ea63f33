use Rattle.std.proofs.Common.{◌≡◌, ◌∷◌, [], map, take}
use Rattle.std.specs.List.{flat_map}
use Rattle.std.specs.Option.{option_copied}
use Rattle.tm_limits.specs.LongNames.{first_long}
use Rattle.tm_syntax.specs.Tree.{LocalTree}
use Rattle.tm_syntax.specs.Tree.View.{local_tree}
use Rattle.tm_limits.proofs.names.templates.locals_declared.Given as goal

abbrev pub invariant-loop-local : goal.invariant-loop-local
invariant-loop-local l =
    option_copied l.first
    ≡ first_long (flat_map (λ (y : LocalTree). y.name ∷ []) (map local_tree (take l.local-index l.locals)))
