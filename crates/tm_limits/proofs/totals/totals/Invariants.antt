use Rattle.std.proofs.Common.{◌≡◌, ◌<◌, ℕ, Some, get_or, length, map, slice_get}
use Rattle.tm_scope.specs.Graph.{graph_of}
use Rattle.tm_limits.specs.Amount.{capped}
use Rattle.tm_limits.specs.Totals.{nodes_below, over}
use Rattle.tm_limits.proofs.totals.totals.Given as goal

abbrev pub invariant-loop-count : goal.invariant-loop-count
invariant-loop-count l = length l.totals.items ≡ l._count-index

abbrev pub invariant-loop-node : goal.invariant-loop-node
invariant-loop-node l = record {
  room : length l.totals.items ≡ length l.own;
  so_far : (counts : ℕ → ℕ) → ((k : ℕ) → get_or l.own k 0 ≡ capped (counts k)) →
      (k n : ℕ) → k < l.node-index → slice_get l.order k ≡ Some n → get_or l.totals.items n 0
      ≡ capped (over l.combination (map counts (nodes_below (length l.order) (graph_of l.graph) n)));
}
