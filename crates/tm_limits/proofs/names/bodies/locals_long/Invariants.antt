use Rattle.std.proofs.Common.{◌≡◌, ◌∷◌, [], map, take}
use Rattle.std.specs.List.{flat_map}
use Rattle.std.specs.Option.{option_copied}
use Rattle.std.specs.Prelude.{None}
use Rattle.tm_limits.specs.LongNames.{first_long, own_names}
use Rattle.tm_syntax.specs.Tree.{LocalTree, assign}
use Rattle.tm_syntax.specs.Tree.View.{local_tree}
use Rattle.tm_limits.proofs.names.bodies.locals_long.Given as goal

abbrev pub invariant-loop-local : goal.invariant-loop-local
invariant-loop-local l =
    option_copied l.first
    ≡ first_long (flat_map (λ (d : LocalTree). own_names l.sought (assign (d.name ∷ []) None d.value))
    (map local_tree (take l.local-index l.locals)))
