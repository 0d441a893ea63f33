-- A list of versions in parts that copies share.
use Rattle.std.specs.Prelude.{◌≡◌, ℕ, ◌<◌, ◌≤◌, List, ◌++◌, length, slice_get}
use Rattle.std.specs.List.{flat_map}
use Rattle.std.specs.declared.alloc.Global.{Global}
use Rattle.std.specs.declared.rc.Rc.{Rc}
use Rattle.std.specs.declared.vec.Vec.{Vec}
use Rattle.tm_flat_exprs.specs.declared.memory.versions.Version.{Version}

-- a part that copies share
abbrev pub Part : Type 0
Part = Rc (Vec Version Global) Global

-- the versions of a part
abbrev pub versions_in : Part → List Version
versions_in part = part.value.items

-- the versions of parts, and those behind them
abbrev pub all_versions : List Part → List Version → List Version
all_versions parts last = flat_map versions_in parts ++ last

-- a part has 64 versions
abbrev pub IsFull : Part → Type 0
IsFull part = length (versions_in part) ≡ 64

-- two lists have the same versions from an index on, up to another one
pub record HaveSame (high low : ℕ) (first second : List Version) : Type 0 where
  pub within : high ≤ length first
  pub within_other : high ≤ length second
  pub same : (i : ℕ) → low ≤ i → i < high → slice_get first i ≡ slice_get second i
