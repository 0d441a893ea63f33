-- What the real files count.
use Rattle.std.specs.Prelude.{ℕ}

-- failed reads and writes of all names, and the bytes that reads took
pub record DiskCounts : Type 0 where
  pub read_faults : ℕ
  pub write_faults : ℕ
  pub bytes_taken : ℕ
