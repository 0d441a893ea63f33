use Rattle.std.proofs.Common.{◌≡◌, ◌∷◌, [], None, map, take}
use Rattle.tm_syntax.specs.Tree.{LocalTree, assign}
use Rattle.tm_syntax.specs.Tree.View.{local_tree}
use Rattle.tm_limits.specs.Amount.{capped}
use Rattle.tm_limits.specs.Inner.Weights.{sum_weights}
use Rattle.tm_limits.proofs.weights.locals_weight.Given as goal

abbrev pub invariant-loop-local : goal.invariant-loop-local
invariant-loop-local l =
    l.total ≡ capped (sum_weights l.calls (map (λ (d : LocalTree). assign (d.name ∷ []) None d.value)
    (map local_tree (take l.local-index l.locals))))
