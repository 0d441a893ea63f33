-- The levels that a function depends on.
use Rattle.std.specs.Prelude.{◌≢◌, ℕ, ◌==◌, Bool, true, false, if◌then◌else◌}
use Rattle.tm_dd.specs.declared.node.NodeId.{NodeId}
use Rattle.tm_dd.specs.Table.{Table, means}

-- v, with b as the level's value
abbrev pub with_value : (ℕ → Bool) → ℕ → Bool → ℕ → Bool
with_value v level b k = if k == level then b else v k

-- the value of f changes with that of the level, where v gives the values of the other ones
abbrev pub DependsOn : Table → NodeId → ℕ → Type 0
DependsOn s f level = (v : ℕ → Bool) × (means s f (with_value v level true) ≢ means s f (with_value v level false))
