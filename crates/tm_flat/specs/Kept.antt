-- What a run leaves alone.
use Rattle.std.specs.Prelude.{◌≡◌, ℕ, slice_index}
use Rattle.tm_sem.specs.Run.{Ending, stopped, finished, failed, blocked}

-- where an ending has a memory, the state variable of this number has this value there
abbrev pub HasValueAt : ℕ → ℕ → Ending → Type 0
HasValueAt v x (stopped at trail m) = slice_index m.values v ≡ x
HasValueAt v x (finished m) = slice_index m.values v ≡ x
HasValueAt v x failed = Unit {0}
HasValueAt v x blocked = Unit {0}
