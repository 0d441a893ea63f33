-- The least assignment that makes a function true, with false before true and the highest level first.
use Rattle.std.specs.Prelude.{◌≡◌, ℕ, ◌<◌, ◌≤◌, Bool, true, false, List, length}
use Rattle.tm_dd.specs.declared.node.NodeId.{NodeId}
use Rattle.tm_dd.specs.Table.{Table, assignment, depth_of, means, rank_of}

-- values make f true, and each other values that do are true at the highest level at which the two differ
pub record IsLeast (s : Table) (f : NodeId) (values : List Bool) : Type 0 where
  pub one_a_level : length values ≡ s.levels
  pub holds : means s f (assignment values) ≡ true
  pub least : (v : ℕ → Bool) → means s f v ≡ true → (k : ℕ) → k < s.levels
      → ((j : ℕ) → rank_of s j < rank_of s k → v j ≡ assignment values j) → assignment values k ≡ true → v k ≡ true

-- the values from the level of f on downwards, in new, are the least that make f true, and those above are as in old
pub record IsFilled (s : Table) (f : NodeId) (old new : List Bool) : Type 0 where
  pub above : (k : ℕ) → rank_of s k < depth_of s f → assignment new k ≡ assignment old k
  pub holds : (v : ℕ → Bool) → ((k : ℕ) → depth_of s f ≤ rank_of s k → k < s.levels → v k ≡ assignment new k)
      → means s f v ≡ true
  pub least : (v : ℕ → Bool) → means s f v ≡ true → (k : ℕ) → depth_of s f ≤ rank_of s k → k < s.levels
      → ((j : ℕ) → depth_of s f ≤ rank_of s j → rank_of s j < rank_of s k → v j ≡ assignment new j)
      → assignment new k ≡ true → v k ≡ true

-- the values from the level of f on downwards are false
abbrev pub IsClearFrom : Table → NodeId → List Bool → Type 0
IsClearFrom s f values = (k : ℕ) → depth_of s f ≤ rank_of s k → k < s.levels → assignment values k ≡ false
