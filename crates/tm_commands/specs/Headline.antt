-- Read this file first. It says of all commands at once what the program promises; `Commands` says of each what it
-- reads and writes, how it ends, what it puts on the way, and what it leaves in the files.
--
-- An outcome is an end, which the words and the contents of the files determine, or a failure: a fault, which a count
-- shows, or want of memory. `Order` says when a file is due: each one is read only where those before it were judged
-- well. `old` and `new` are the files before and after, `out` and `after` the output.
use Rattle.std.specs.Prelude.{◌≡◌, ℕ, suc, Option, Result, Ok, Err, List, [], ◌∷◌, ◌++◌, IsTrue, IfOk, Contains}
use Rattle.tm_base.specs.Sink.{AppendsPrefix}
use Rattle.tm_syntax.specs.declared.fault.FaultKind.TheVariants.{Limit}
use Rattle.tm_syntax.specs.declared.fault.Faulty.{Faulty as Fault}
use Rattle.tm_syntax.specs.declared.fault.Quantity.TheVariants.{Specification}
use Rattle.tm_syntax.specs.Limits.{specification_limit, file_limit}
use Rattle.tm_syntax.specs.Places.{text_start}
use Rattle.tm_syntax.specs.Faults.{fault}
use Rattle.tm_syntax.specs.Faults.Limits.{above}
use Rattle.tm_report.specs.declared.ending.Bad.TheVariants.{TooLong}
use Rattle.tm_report.specs.declared.ending.Ending.{Ending}
use Rattle.tm_report.specs.declared.ending.Ending.TheVariants.{Faulty, BadText}
use Rattle.tm_report.specs.declared.ending.Failure.{Failure}
use Rattle.tm_report.specs.declared.ending.Failure.TheVariants.{ReadFault, WriteFault, Memory}
use Rattle.tm_commands.specs.Words.{Command}
use Rattle.tm_commands.specs.Commands.{read_names, write_names, CommandEnds, IsAnswered, IsCommandPart, CommandLeaves}
use Rattle.tm_commands.specs.Commands.{CommandBreaksOff}
use Rattle.tm_commands.specs.Order.{IsDue, IsWriteDue}
use Rattle.tm_report.specs.Report.{ending_text, failure_text, outcome_text}
use Rattle.tm_commands.specs.World.{FilesData, OnlyTouches, HasFailedRead, HasFailedWrite}
use Rattle.tm_report.specs.Output.{SinkData, HasFailedPut}
use Rattle.tm_commands.specs.World.{TookMoreThan}

-- the files tell what they hold, or none of them is read
abbrev pub AreTold : FilesData → List (List ℕ) → Type 0
AreTold files [] = Unit {0}
AreTold files (name ∷ names) = IsTrue files.tells

-- an end that is answered is one that the command has
abbrev pub HasCause : FilesData → Option Command → Result Ending Failure → Type 0
HasCause old command outcome =
    AreTold old (read_names command) →
    IfOk outcome (λ ending. (text : List ℕ) × CommandEnds old.contents command text ending)

-- an end that the command has is the one that is answered, or alike, unless a failure comes first
abbrev pub IsComplete : FilesData → Option Command → Result Ending Failure → Type 0
IsComplete old command outcome =
    AreTold old (read_names command) →
    IfOk outcome (λ answered. (text : List ℕ) (ending : Ending) → CommandEnds old.contents command text ending →
    IsAnswered command answered ending)

-- a file was not read or written: it is one that the command reads or writes, its count rose, and where the files tell,
-- those before it were judged well
abbrev pub IsFault : Option Command → FilesData → FilesData → Failure → Type 0
IsFault command old new (ReadFault name) =
    Contains (read_names command) name × HasFailedRead old new name
    × (IsTrue old.tells → IsDue old.contents command name)
IsFault command old new (WriteFault []) = ⊥
IsFault command old new (WriteFault (b ∷ bs)) =
    Contains (write_names command) (b ∷ bs) × HasFailedWrite old new (b ∷ bs)
    × (IsTrue old.tells → IsWriteDue old.contents command)
IsFault command old new Memory = ⊥

-- a failure shows: a fault of a file, or with no name one of the output, whose count rose; memory may run out at any
-- time
abbrev pub IsShown :
    Option Command → FilesData → FilesData → SinkData → SinkData → Failure → Type 0
IsShown command old new out after (ReadFault name) = IsFault command old new (ReadFault name)
IsShown command old new out after (WriteFault []) = HasFailedPut out after
IsShown command old new out after (WriteFault (b ∷ bs)) = IsFault command old new (WriteFault (b ∷ bs))
IsShown command old new out after Memory = Unit {0}

-- the fault of a specification that is longer than its limit
abbrev pub long_fault : Fault
long_fault = fault Limit (above text_start Specification (suc specification_limit))

-- where the files do not tell, a text that is too long shows by the bytes that were taken
pub record IsLongShown (old new : FilesData) (ending : Ending) : Type 0 where
  pub specification : ending ≡ Faulty long_fault → TookMoreThan specification_limit old new
  pub file : (name : List ℕ) → ending ≡ BadText name TooLong → TookMoreThan file_limit old new

-- what is left in the files where the output failed: all as it was by a command that writes none, and by another one
-- what the outcome leaves that it came to: an end what it says, a failed read all as it was, a failed write anything in
-- the file in hand
pub data LeavesUnreported (command : Option Command) (old new : FilesData) : Type 0 where
  wrote_none : write_names command ≡ [] → new.contents ≡ old.contents → LeavesUnreported command old new
  came_to_end : (text : List ℕ) (ending : Ending) → CommandEnds old.contents command text ending →
      CommandLeaves old.contents new.contents command ending → LeavesUnreported command old new
  failed_to_read : (name : List ℕ) → IsFault command old new (ReadFault name) → new.contents ≡ old.contents →
      LeavesUnreported command old new
  failed_to_write : (name : List ℕ) → IsFault command old new (WriteFault name) →
      CommandBreaksOff old.contents new.contents command name → LeavesUnreported command old new

-- what an outcome leaves in the files: an end what it says, and a failed read all as it was; after a failed write
-- nothing is said of the file in hand, and after want of memory nothing of what the command writes
abbrev pub Leaves : Option Command → FilesData → FilesData → Result Ending Failure → Type 0
Leaves command old new (Ok ending) = CommandLeaves old.contents new.contents command ending
Leaves command old new (Err (ReadFault name)) = new.contents ≡ old.contents
Leaves command old new (Err (WriteFault [])) = LeavesUnreported command old new
Leaves command old new (Err (WriteFault (b ∷ bs))) = CommandBreaksOff old.contents new.contents command (b ∷ bs)
Leaves command old new (Err Memory) = Unit {0}

-- a report of a command, where it leaves in the files what its outcome says: its lines and those that tell its end, the
-- line of a failed read or write, or its lines so far
pub data IsReport (command : Option Command) (old new : FilesData) : List ℕ → Type 0 where
  whole_report : (text : List ℕ) (ending : Ending) → CommandEnds old.contents command text ending →
      (IsTrue old.tells → Leaves command old new (Ok ending)) → IsReport command old new (text ++ ending_text ending)
  fault_report : (failure : Failure) → IsFault command old new failure →
      (IsTrue old.tells → Leaves command old new (Err failure)) → IsReport command old new (failure_text failure)
  part_report : {text : List ℕ} → IsCommandPart old.contents command text → IsReport command old new text

-- the output took some first part of a report
abbrev pub IsCut : Option Command → FilesData → FilesData → List ℕ → List ℕ → Type 0
IsCut command old new before now = (text : List ℕ) × IsReport command old new text × AppendsPrefix text before now

-- what the output took: the report of the end, of the failed read or of the failed write, and where the output failed
-- or memory ran out some first part of one
abbrev pub Takes : Option Command → FilesData → FilesData → List ℕ → List ℕ → Result Ending Failure → Type 0
Takes command old new before now (Ok ending) =
    (text : List ℕ) × CommandEnds old.contents command text ending × (now ≡ before ++ (text ++ ending_text ending))
Takes command old new before now (Err (ReadFault name)) = now ≡ before ++ failure_text (ReadFault name)
Takes command old new before now (Err (WriteFault [])) = IsCut command old new before now
Takes command old new before now (Err (WriteFault (b ∷ bs))) = now ≡ before ++ failure_text (WriteFault (b ∷ bs))
Takes command old new before now (Err Memory) = IsCut command old new before now

-- where the output and the files tell, it took the report
abbrev pub Reports :
    Option Command → FilesData → FilesData → SinkData → SinkData → Result Ending Failure → Type 0
Reports command old new out after outcome =
    AreTold old (read_names command) → IsTrue out.tells → Takes command old new out.written after.written outcome

-- where the output tells, whether the files do or not, what it took ends with the lines of the outcome
abbrev pub EndsWithLines : SinkData → SinkData → Result Ending Failure → Type 0
EndsWithLines out after outcome =
    IsTrue out.tells → (text : List ℕ) × (after.written ≡ out.written ++ (text ++ outcome_text outcome))

-- no file changes but those that the command writes, and where the files tell these are as the outcome says
pub record KeepsFiles (command : Option Command) (old new : FilesData) (outcome : Result Ending Failure) : Type 0 where
  pub touched : OnlyTouches (read_names command) (write_names command) old new
  pub left : IsTrue old.tells → Leaves command old new outcome
