use Rattle.std.proofs.Common.{◌≡◌, ℕ, ◌<◌, Some, get_or, length, map, slice_get}
use Rattle.tm_scope.specs.Graph.{graph_of}
use Rattle.tm_syntax.specs.declared.fault.Quantity.TheVariants as quantity
use Rattle.tm_limits.specs.Shares.{combination_of}
use Rattle.tm_limits.specs.Amount.{capped}
use Rattle.tm_limits.specs.Totals.{nodes_below, over}
use Rattle.tm_inst.proofs.sizes.template_sizes.Given as goal

abbrev pub invariant-loop-node : goal.invariant-loop-node
invariant-loop-node l = record {
  room : length l.sizes.items ≡ length l.graph;
  so_far : (count : ℕ → ℕ) → ((k : ℕ) → k < length l.graph → count k ≡ 1) → (k n : ℕ) → k < l.node-index →
      slice_get l.order k ≡ Some n →
      get_or l.sizes.items n 0 ≡ capped (over (combination_of quantity.Instances)
      (map count (nodes_below (length l.order) (graph_of l.graph) n)));
}
