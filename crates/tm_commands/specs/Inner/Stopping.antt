-- What stops a step of a command.
use Rattle.std.specs.Prelude.{◌≡◌, ℕ, Result, Ok, Err, List, IsTrue, Contains}
use Rattle.tm_report.specs.declared.ending.Ending.{Ending}
use Rattle.tm_report.specs.declared.ending.Failure.{Failure}
use Rattle.tm_report.specs.declared.ending.Failure.TheVariants.{ReadFault, WriteFault, Memory}
use Rattle.tm_commands.specs.declared.stop.Stop.{Stop}
use Rattle.tm_commands.specs.declared.stop.Stop.TheVariants.{Ends, Fails}
use Rattle.tm_commands.specs.World.{FilesData, HasFailedRead, HasFailedWrite}
use Rattle.tm_commands.specs.Headline.{IsLongShown}

-- an end or a failure for which this holds
abbrev pub StopsBy : (Ending → Type 0) → (Failure → Type 0) → Stop → Type 0
StopsBy IsEnd IsFailure (Ends ending) = IsEnd ending
StopsBy IsEnd IsFailure (Fails failure) = IsFailure failure

-- the outcome of a command that was stopped
abbrev pub stop_outcome : Stop → Result Ending Failure
stop_outcome (Ends ending) = Ok ending
stop_outcome (Fails failure) = Err failure

-- memory ran out, or a read of this file failed, which its count shows
abbrev pub IsReadFailure : List ℕ → FilesData → FilesData → Failure → Type 0
IsReadFailure name old new Memory = Unit {0}
IsReadFailure name old new (ReadFault other) = (other ≡ name) × HasFailedRead old new name
IsReadFailure name old new (WriteFault other) = ⊥

-- memory ran out, or a read of one of these files failed, which its count shows, and where the files tell it was due
abbrev pub IsLoadFailure : List (List ℕ) → (List ℕ → Type 0) → FilesData → FilesData → Failure → Type 0
IsLoadFailure names IsDue old new Memory = Unit {0}
IsLoadFailure names IsDue old new (ReadFault name) =
    Contains names name × HasFailedRead old new name × (IsTrue old.tells → IsDue name)
IsLoadFailure names IsDue old new (WriteFault name) = ⊥

-- memory ran out, or a write of this file failed, which its count shows
abbrev pub IsWriteFailure : List ℕ → FilesData → FilesData → Failure → Type 0
IsWriteFailure name old new Memory = Unit {0}
IsWriteFailure name old new (ReadFault other) = ⊥
IsWriteFailure name old new (WriteFault other) = (other ≡ name) × HasFailedWrite old new name

-- memory ran out
abbrev pub IsMemory : Failure → Type 0
IsMemory Memory = Unit {0}
IsMemory _ = ⊥

-- a file is refused, for this cause where the files tell
pub record IsRefusal (Cause Named : Ending → Type 0) (old new : FilesData) (ending : Ending) : Type 0 where
  pub cause : IsTrue old.tells → Cause ending
  pub named : Named ending
  pub long : IsLongShown old new ending
