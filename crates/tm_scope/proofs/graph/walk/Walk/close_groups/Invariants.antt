use Rattle.std.proofs.Common.{◌≡◌, ℕ, List, length}
use Rattle.tm_scope.specs.Inner.Walks.{IsWalkOf}
use Rattle.tm_scope.proofs.graph.walk.Walk.close_groups.Given as goal

abbrev pub invariant-loop-group : goal.invariant-loop-group
invariant-loop-group l =
    ((graph : List (List ℕ)) → IsWalkOf graph l.initial.self → IsWalkOf graph l.self)
    × (l.self.opened ≡ l.initial.self.opened)
    × (l.self.pending ≡ l.initial.self.pending)

abbrev pub decreases-loop-group : goal.decreases-loop-group
decreases-loop-group l = length l.self.groups.items
