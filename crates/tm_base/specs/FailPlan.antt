-- Which calls of files or a sink in memory are to fail.
use Rattle.std.specs.Prelude.{ℕ, ◌+◌, min, List, Contains}
use Rattle.tm_base.specs.Count.{greatest}

-- the number of the next call, from 1, after so many calls. The count stays at the greatest `u64`
abbrev pub next_call : ℕ → ℕ
next_call calls = min (calls + 1) greatest

-- after so many calls, the next one is among those that are to fail
abbrev pub FailsNext : List ℕ → ℕ → Type 0
FailsNext fails calls = Contains fails (next_call calls)
