-- What holds part way of a walk over a graph.
use Rattle.std.specs.Prelude.{◌≡◌, ◌⊎◌, ℕ, suc, ◌+◌, ◌<◌, ◌≤◌, Bool, true, false, Option, None, Some, List, [], ◌∷◌, ◌++◌, length, map, take, slice_get}
use Rattle.tm_scope.specs.declared.graph.Walked.{Walked}
use Rattle.tm_scope.specs.declared.graph.groups.Group.{Group}
use Rattle.tm_scope.specs.declared.graph.walk.Walk.{Walk}
use Rattle.tm_scope.specs.Graph.{HasEdge, LeadsTo, StandsAt}

-- a node was left: it stands in the order
abbrev pub IsDone : List Walked → ℕ → Type 0
IsDone order a = (k : ℕ) × StandsAt order k a

-- the nodes before a position of the order are closed under edges, the edges of a node lead to them, and it is none
pub record StandsBehind (graph : List (List ℕ)) (order : List Walked) (k a : ℕ) : Type 0 where
  pub closed : (j b c : ℕ) → j < k → StandsAt order j b → HasEdge graph b c → (i : ℕ) × (i < k) × StandsAt order i c
  pub edges : (b : ℕ) → HasEdge graph a b → (i : ℕ) × (i < k) × StandsAt order i b
  pub fresh : (j : ℕ) → j < k → ¬ StandsAt order j a

-- an edge to this node from a node of a group, or behind it: it was left, it stands on the path in the group or behind
-- it, or the edge is still to be followed
abbrev pub IsMet : List ℕ → List ℕ → List Walked → Group → ℕ → Type 0
IsMet path pending order g b =
    IsDone order b
    ⊎ (((q : ℕ) × (g.start ≤ q) × (g.loops ≡ false → g.start < q) × (slice_get path q ≡ Some b))
    ⊎ ((k : ℕ) × (g.pending ≤ k) × (slice_get pending k ≡ Some b)))

-- a position of the path stands before all groups behind one
abbrev pub IsBefore : List Group → ℕ → ℕ → Type 0
IsBefore groups i p = (j : ℕ) (h : Group) → i < j → slice_get groups j ≡ Some h → p < h.start

-- a position of the edges to be followed and one of the path stand before and behind the same groups
abbrev pub AreInStep : List Group → ℕ → ℕ → Type 0
AreInStep groups k p = (j : ℕ) (h : Group) → slice_get groups j ≡ Some h →
    (h.pending ≤ k → h.start ≤ p) × (k < h.pending → p < h.start)

-- how many nodes a walk has not come to
abbrev pub unopened : List (Option ℕ) → ℕ
unopened [] = 0
unopened (None ∷ opened) = suc (unopened opened)
unopened (Some _ ∷ opened) = unopened opened

-- how many these nodes and their edges are
abbrev pub left_over : List (List ℕ) → List (Option ℕ) → ℕ
left_over [] opened = 0
left_over (edges ∷ graph) [] = 0
left_over (edges ∷ graph) (None ∷ opened) = suc (length edges) + left_over graph opened
left_over (edges ∷ graph) (Some _ ∷ opened) = left_over graph opened

-- a walk part way: where each node was put on the path, the path, the nodes to which edges lead that are still to be
-- followed, the groups of the path, and the nodes that were left
pub record IsWalking (graph : List (List ℕ)) (opened : List (Option ℕ)) (path pending : List ℕ) (groups : List Group)
    (order : List Walked) : Type 0
  where
    pub sized : length opened ≡ length graph
    pub counted : length order + length path + unopened opened ≡ length graph
    pub met : (a : ℕ) → a < length graph →
        ((p : ℕ) × (slice_get opened a ≡ Some (Some p))) ⊎ ((k : ℕ) × (slice_get pending k ≡ Some a))
    pub known : (k a : ℕ) → slice_get pending k ≡ Some a → a < length graph
    pub on_path : (p a : ℕ) → slice_get path p ≡ Some a → slice_get opened a ≡ Some (Some p)
    pub seen : (a p : ℕ) → slice_get opened a ≡ Some (Some p) → (slice_get path p ≡ Some a) ⊎ IsDone order a
    pub done : (a : ℕ) → IsDone order a → (p : ℕ) × (slice_get opened a ≡ Some (Some p))
    pub apart : (p a : ℕ) → slice_get path p ≡ Some a → ¬ IsDone order a
    pub reach : (p q a b : ℕ) → p < q → slice_get path p ≡ Some a → slice_get path q ≡ Some b → LeadsTo graph a b
    pub none : groups ≡ [] → path ≡ []
    pub first : (g : Group) → slice_get groups 0 ≡ Some g → g.start ≡ 0
    pub inside : (i : ℕ) (g : Group) → slice_get groups i ≡ Some g →
        (g.start < length path) × (g.pending ≤ length pending)
    pub rising : (i j : ℕ) (g h : Group) → i < j → slice_get groups i ≡ Some g → slice_get groups j ≡ Some h →
        (g.start < h.start) × (g.pending ≤ h.pending)
    pub back : (i p a b : ℕ) (g : Group) → slice_get groups i ≡ Some g → g.start ≤ p → IsBefore groups i p →
        slice_get path p ≡ Some a → slice_get path g.start ≡ Some b →
        (g.loops ≡ true → LeadsTo graph a b) × (g.loops ≡ false → p ≡ g.start)
    pub edges : (i p a b : ℕ) (g : Group) → slice_get groups i ≡ Some g → g.start ≤ p → slice_get path p ≡ Some a →
        HasEdge graph a b → IsMet path pending order g b
    pub source : (i k b : ℕ) (g : Group) → slice_get groups i ≡ Some g → g.pending ≤ k → slice_get pending k ≡ Some b →
        (p : ℕ) × (a : ℕ) × AreInStep groups k p × (slice_get path p ≡ Some a) × HasEdge graph a b
    pub closed : (a b : ℕ) → IsDone order a → HasEdge graph a b → IsDone order b
    pub loops : (k : ℕ) (w : Walked) → slice_get order k ≡ Some w → w.loops ≡ true → LeadsTo graph w.node w.node
    pub behind : (k : ℕ) (w : Walked) → slice_get order k ≡ Some w → w.loops ≡ false →
        StandsBehind graph order k w.node

-- what holds of a walk
abbrev pub IsWalkOf : List (List ℕ) → Walk → Type 0
IsWalkOf graph w = IsWalking graph w.opened.items w.path.items w.pending.items w.groups.items w.order.items

-- each group has edges that are still to be followed
abbrev pub AreBusy : Walk → Type 0
AreBusy w = (i : ℕ) (g : Group) → slice_get w.groups.items i ≡ Some g → g.pending < length w.pending.items

-- the last groups were joined to one, back to the one that holds a position
pub record AreJoined (old : List Group) (at : ℕ) (new : List Group) : Type 0 where
  pub place : ℕ
  pub group : Group
  pub is : slice_get old place ≡ Some group
  pub holds : group.start ≤ at
  pub before : IsBefore old place at
  pub shape : new ≡ take place old ++ record { start = group.start; pending = group.pending; loops = true } ∷ []

-- a group is the last one
pub record IsLast (groups : List Group) (g : Group) : Type 0 where
  pub front : List Group
  pub shape : groups ≡ front ++ g ∷ []

-- nodes that are left together
abbrev pub walked_nodes : Bool → List ℕ → List Walked
walked_nodes loops nodes = map (λ n. record { node = n; loops = loops }) nodes
