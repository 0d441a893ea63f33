-- Directed graphs, and an order of the nodes of one in which each that does not reach itself stands behind those to
-- which its edges lead. A graph is a list that has, at the number of each node, the numbers of these nodes.
use Rattle.std.specs.Prelude.{◌≡◌, ℕ, ◌<◌, ◌≤◌, true, false, Some, List, Contains, length, map, slice_get}
use Rattle.std.specs.declared.alloc.Global.{Global}
use Rattle.std.specs.declared.vec.Vec.{Vec}
use Rattle.tm_scope.specs.declared.graph.Walked.{Walked}

-- the graph of some vectors
abbrev pub graph_of : List (Vec ℕ Global) → List (List ℕ)
graph_of edges = map (λ row. row.items) edges

-- an edge leads from a node to a node
pub record HasEdge (graph : List (List ℕ)) (from to : ℕ) : Type 0 where
  pub edges : List ℕ
  pub of_node : slice_get graph from ≡ Some edges
  pub leads : Contains edges to

-- each edge leads to a node
abbrev pub HasEdgesWithin : List (List ℕ) → Type 0
HasEdgesWithin graph = (from to : ℕ) → HasEdge graph from to → to < length graph

-- a node reaches a node along edges
pub data LeadsTo (graph : List (List ℕ)) : ℕ → ℕ → Type 0 where
  along : {a b : ℕ} → HasEdge graph a b → LeadsTo graph a b
  onward : {a b c : ℕ} → HasEdge graph a b → LeadsTo graph b c → LeadsTo graph a c

-- this node stands at a position of an order
pub record StandsAt (order : List Walked) (k a : ℕ) : Type 0 where
  pub walked : Walked
  pub at : slice_get order k ≡ Some walked
  pub node : walked.node ≡ a

-- all nodes of a graph, each with whether it reaches itself; one that does not stands behind those to which its edges
-- lead
pub record IsWalk (graph : List (List ℕ)) (order : List Walked) : Type 0 where
  pub complete : (a : ℕ) → a < length graph → (k : ℕ) × StandsAt order k a
  pub within : (k a : ℕ) → StandsAt order k a → a < length graph
  pub short : length order ≤ length graph
  pub loops : (k : ℕ) (w : Walked) → slice_get order k ≡ Some w → w.loops ≡ true → LeadsTo graph w.node w.node
  pub straight : (k : ℕ) (w : Walked) → slice_get order k ≡ Some w → w.loops ≡ false → ¬ LeadsTo graph w.node w.node
  pub behind : (k b : ℕ) (w : Walked) → slice_get order k ≡ Some w → w.loops ≡ false → HasEdge graph w.node b →
      (j : ℕ) × (j < k) × StandsAt order j b
