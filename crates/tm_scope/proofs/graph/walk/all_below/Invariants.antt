use Rattle.std.proofs.Common.{◌≡◌, ◌<◌, ℕ, Some, length, slice_get}
use Rattle.tm_scope.proofs.graph.walk.all_below.Given as goal

abbrev pub invariant-loop-number : goal.invariant-loop-number
invariant-loop-number l =
    (length l.all.items ≡ l.number) × ((k : ℕ) → k < l.number → slice_get l.all.items k ≡ Some k)
