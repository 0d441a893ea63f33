-- Where levels stand in diagrams.
use Rattle.std.specs.Prelude.{ℕ, ◌+◌, ◌-◌, ◌*◌, List, nat_lt, slice_index_or, if◌then◌else◌}

-- what decides where a level stands: of the first `states` levels twice its number and one, and of another level twice
-- how many of these stand above it
abbrev pub key_of : ℕ → List ℕ → ℕ → ℕ
key_of states above level =
    if nat_lt level states then 2 * level + 1 else 2 * slice_index_or above (level - states) states
