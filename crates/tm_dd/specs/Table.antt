-- What contracts see of a store, and the meaning of its ids (Bryant 1986; complement marks by Brace, Rudell and Bryant
-- 1990).
use Rattle.std.specs.Prelude.{ℕ, ◌+◌, ◌*◌, ◌<◌, Bool, false, not, List, [], ◌∷◌, ◌++◌, length, fold, slice_index_or, if◌then◌else◌}
use Rattle.tm_dd.specs.declared.node.Node.{Node}
use Rattle.tm_dd.specs.declared.node.NodeId.{NodeId}
use Rattle.tm_dd.specs.declared.node.TheConstants.{FALSE}
use Rattle.tm_dd.specs.NodeId.{number_of, position_of, is_marked, complement}

-- the number of levels, the rank of each level, and the kept nodes in the order of their positions, which begin at 1
pub record Table : Type 0 where
  pub levels : ℕ
  pub ranks : List ℕ
  pub nodes : List Node

-- how many nodes are kept
abbrev pub kept : Table → ℕ
kept s = length s.nodes

-- a store knows an id whose position is that of the constant or of a kept node
abbrev pub Knows : Table → NodeId → Type 0
Knows s id = number_of id < 2 * (kept s + 1)

-- the entry of the constant, which stands at position 0 and below all levels
abbrev pub constant_entry : ℕ → Node
constant_entry levels = record { level = levels; lo = FALSE; hi = FALSE }

-- all entries, by position
abbrev pub entries : Table → List Node
entries s = constant_entry s.levels ∷ s.nodes

-- the entry at a position
unfoldable pub entry_at : Table → ℕ → Node
entry_at s position = slice_index_or (entries s) position (constant_entry s.levels)

-- the level of an id: that of its node, and for a constant the number of levels
unfoldable pub level_of : Table → NodeId → ℕ
level_of s id = (entry_at s (position_of id)).level

-- the rank of a level: how deep it stands in diagrams, where 0 is the top. What is no level stands below all levels
unfoldable pub rank_of : Table → ℕ → ℕ
rank_of s level = slice_index_or s.ranks level s.levels

-- the rank of an id's level
abbrev pub depth_of : Table → NodeId → ℕ
depth_of s id = rank_of s (level_of s id)

-- a node with its children complemented
abbrev pub complement_node : Node → Node
complement_node n = record n { lo = complement n.lo; hi = complement n.hi }

-- the node of an id: the kept one, whose children are complemented where the id is marked
unfoldable pub node_of : Table → NodeId → Node
node_of s id = if is_marked id then complement_node (entry_at s (position_of id)) else entry_at s (position_of id)

-- a value, or its complement under a mark
abbrev pub marked_value : Bool → Bool → Bool
marked_value marked value = if marked then not value else value

-- the value of an id, where those of the kept functions are given by position
abbrev pub id_value : List Bool → NodeId → Bool
id_value values id = marked_value (is_marked id) (slice_index_or values (position_of id) false)

-- a node has the value of `hi` where its level's value is true, and that of `lo` where it is false
abbrev pub node_value : (ℕ → Bool) → List Bool → Node → Bool
node_value v values n = if v n.level then id_value values n.hi else id_value values n.lo

-- the values of the kept functions by position, where v gives each level's value: of the constant, which is false, and
-- then of each node
unfoldable pub values_of : Table → (ℕ → Bool) → List Bool
values_of s v = fold (λ values n. values ++ node_value v values n ∷ []) (false ∷ []) s.nodes

-- what an id means: the value of its function where v gives each level's value
unfoldable pub means : Table → NodeId → (ℕ → Bool) → Bool
means s id v = id_value (values_of s v) id

-- each level's value, where a list gives them
abbrev pub assignment : List Bool → ℕ → Bool
assignment values level = slice_index_or values level false
