-- Quantification over levels.
use Rattle.std.specs.Prelude.{◌≡◌, ℕ, Bool, true, false, List, Contains, slice_index_or}
use Rattle.tm_dd.specs.declared.node.NodeId.{NodeId}
use Rattle.tm_dd.specs.Table.{Table, Knows, means}

-- w gives each level that is not in the list the value that v gives it
abbrev pub AgreeElsewhere : List ℕ → (ℕ → Bool) → (ℕ → Bool) → Type 0
AgreeElsewhere levels v w = (k : ℕ) → ¬ Contains levels k → w k ≡ v k

-- an id is true exactly where f is true for some values of the levels
pub record IsExists (s : Table) (levels : List ℕ) (f id : NodeId) : Type 0 where
  pub known : Knows s id
  pub some : (v : ℕ → Bool) → means s id v ≡ true → (w : ℕ → Bool) × AgreeElsewhere levels v w × (means s f w ≡ true)
  pub enough : (v w : ℕ → Bool) → AgreeElsewhere levels v w → means s f w ≡ true → means s id v ≡ true

-- an id is true exactly where f is true for all values of the levels
pub record IsForall (s : Table) (levels : List ℕ) (f id : NodeId) : Type 0 where
  pub known : Knows s id
  pub all : (v w : ℕ → Bool) → means s id v ≡ true → AgreeElsewhere levels v w → means s f w ≡ true
  pub enough : (v : ℕ → Bool) → ((w : ℕ → Bool) → AgreeElsewhere levels v w → means s f w ≡ true) → means s id v ≡ true

-- whether a level is marked
abbrev pub is_marked_level : List Bool → ℕ → Bool
is_marked_level marks k = slice_index_or marks k false
