-- What an output shows: what it took, and counts of what went wrong.
use Rattle.std.specs.Prelude.{ℕ, Bool, Option, List}
use Rattle.tm_base.specs.Count.{Rose}
use Rattle.tm_base.specs.declared.sink.Sink.{Ghosts as SinkGhosts}

-- what the output took, and how many puts failed; where the output does not tell, nothing is said of what it took
pub record SinkData : Type 0 where
  pub tells : Bool
  pub written : List ℕ
  pub last_count : Option ℕ
  pub faults : ℕ

-- what this output shows
abbrev pub sink_data : {A : Type 0} → SinkGhosts A → A → SinkData
sink_data O out = record {
  tells = O.tells;
  written = O.written out;
  last_count = O.last_count;
  faults = O.faults out;
}

-- a put failed, which the count shows
abbrev pub HasFailedPut : SinkData → SinkData → Type 0
HasFailedPut old new = Rose old.last_count old.faults new.faults
