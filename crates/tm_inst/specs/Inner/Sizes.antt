-- How many nodes each node of a graph is with all below it.
use Rattle.std.specs.Prelude.{◌≡◌, ℕ, ◌<◌, Some, List, get_or, length, map, slice_get}
use Rattle.tm_syntax.specs.declared.fault.Quantity.TheVariants as quantity
use Rattle.tm_limits.specs.Amount.{capped}
use Rattle.tm_limits.specs.Shares.{combination_of}
use Rattle.tm_limits.specs.Totals.{nodes_below, over}

-- each node of an order has its size in a table: by any count that is 1 for each node of the graph
pub record HasSizes (graph : List (List ℕ)) (order sizes : List ℕ) : Type 0 where
  pub each : (count : ℕ → ℕ) → ((k : ℕ) → k < length graph → count k ≡ 1) → (k n : ℕ) →
      slice_get order k ≡ Some n → get_or sizes n 0 ≡ capped
      (over (combination_of quantity.Instances) (map count (nodes_below (length order) graph n)))
  pub many : length sizes ≡ length graph
