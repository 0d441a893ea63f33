-- What is promised of a command before the lines that tell its outcome are put.
use Rattle.std.specs.Prelude.{◌≡◌, ℕ, ◌≤◌, Option, Some, Result, List, [], ◌∷◌, ◌++◌, IsTrue, IfOk, IfErr}
use Rattle.tm_base.specs.Sink.{AppendsPrefix}
use Rattle.tm_report.specs.declared.ending.Ending.{Ending}
use Rattle.tm_report.specs.declared.ending.Failure.{Failure}
use Rattle.tm_report.specs.declared.ending.Failure.TheVariants.{ReadFault, WriteFault, Memory}
use Rattle.tm_commands.specs.Words.{Command, command_of}
use Rattle.tm_commands.specs.Commands.{read_names, CommandEnds, IsCommandPart, MayEnd}
use Rattle.tm_commands.specs.Headline.{AreTold, IsComplete, IsShown, IsLongShown, KeepsFiles}
use Rattle.tm_commands.specs.World.{FilesData}
use Rattle.tm_report.specs.Output.{SinkData}

-- a command that some words spell
abbrev pub IsSpelled : Command → Type 0
IsSpelled command = (words : List (List ℕ)) × (command_of words ≡ Some command)

-- what was put before a failure: nothing before a failed read or write, and else some first part of the lines
abbrev pub PutBefore : (List ℕ → Type 0) → List ℕ → List ℕ → Failure → Type 0
PutBefore IsPart before now (ReadFault name) = now ≡ before
PutBefore IsPart before now (WriteFault (b ∷ bs)) = now ≡ before
PutBefore IsPart before now (WriteFault []) = (text : List ℕ) × IsPart text × AppendsPrefix text before now
PutBefore IsPart before now Memory = (text : List ℕ) × IsPart text × AppendsPrefix text before now

-- a command was obeyed
pub record Obeys (command : Option Command) (old new : FilesData) (out after : SinkData)
    (outcome : Result Ending Failure) : Type 0 where
  pub ends : AreTold old (read_names command) → IfOk outcome (λ ending.
      (text : List ℕ) × CommandEnds old.contents command text ending
      × (IsTrue out.tells → after.written ≡ out.written ++ text))
  pub complete : IsComplete old command outcome
  pub cut : AreTold old (read_names command) → IsTrue out.tells →
      IfErr outcome (PutBefore (IsCommandPart old.contents command) out.written after.written)
  pub grows : IsTrue out.tells → (text : List ℕ) × (after.written ≡ out.written ++ text)
  pub may_end : IfOk outcome (MayEnd command)
  pub shown : IfErr outcome (IsShown command old new out after)
  pub long : IfOk outcome (IsLongShown old new)
  pub files : KeepsFiles command old new outcome
  pub no_fewer_faults : out.faults ≤ after.faults
