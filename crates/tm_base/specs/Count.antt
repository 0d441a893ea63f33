-- Counts of what went wrong, and of what was taken.
use Rattle.std.specs.Prelude.{ℕ, ◌+◌, ◌-◌, ◌^◌, ◌≤◌, min, Option, None, Some}

-- what a counter shows of a count: it stands still at its last value, where it has one
abbrev pub shown : Option ℕ → ℕ → ℕ
shown None n = n
shown (Some last) n = min n last

-- the count rose by k or more, or stands at its counter's last value
abbrev pub RoseBy : Option ℕ → ℕ → ℕ → ℕ → Type 0
RoseBy last k old new = shown last (old + k) ≤ new

-- the count rose, or stands at its counter's last value
abbrev pub Rose : Option ℕ → ℕ → ℕ → Type 0
Rose last old new = RoseBy last 1 old new

-- the last value of a counter that is a `u64`
abbrev pub greatest : ℕ
greatest = 2 ^ 64 - 1
