-- Orders of the nodes of a graph in which each stands behind all to which it leads.
use Rattle.std.specs.Prelude.{◌≡◌, ℕ, ◌<◌, Some, List, [], length, slice_get, unwrap_or}
use Rattle.tm_scope.specs.Graph.{HasEdge}

-- the nodes to which a node leads
abbrev pub targets : List (List ℕ) → ℕ → List ℕ
targets graph n = unwrap_or (slice_get graph n) []

-- each node of the order stands behind all to which it leads
pub record IsOrder (graph : List (List ℕ)) (order : List ℕ) : Type 0 where
  pub behind : (k a b : ℕ) → slice_get order k ≡ Some a → HasEdge graph a b →
      (j : ℕ) × (j < k) × (slice_get order j ≡ Some b)
  pub below : (k a : ℕ) → slice_get order k ≡ Some a → a < length graph
