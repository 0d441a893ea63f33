use Rattle.std.proofs.Common.{◌≡◌, ℕ, ◌<◌, length, take}
use Rattle.tm_ddops.specs.Changed.{change_at, change_of}
use Rattle.tm_ddops.proofs.change.by_level.Given as goal

abbrev pub invariant-loop-level : goal.invariant-loop-level
invariant-loop-level l =
    (length l.table.items ≡ length l.initial.table.items)
    × ((k : ℕ) → k < length l.initial.table.items →
    change_at l.table.items k ≡ change_of (take l.level-index l.changes) k)
