-- What a status tells, and with which code the program ends.
use Rattle.std.specs.Prelude.{ℕ, Result, Ok, Err}
use Rattle.tm_report.specs.declared.ending.Ending.{Ending}
use Rattle.tm_report.specs.declared.ending.Ending.TheVariants as endings
use Rattle.tm_report.specs.declared.ending.Failure.{Failure}
use Rattle.tm_report.specs.declared.ending.Failure.TheVariants as failures
use Rattle.tm_commands.specs.declared.status.Status.{Status}
use Rattle.tm_commands.specs.declared.status.Status.TheVariants.{Played, Usage, Faulty, ReadFault, WriteFault, Memory}
use Rattle.tm_commands.specs.declared.status.Status.TheVariants.{BadText, Stopped, Generated, Migrated}
use Rattle.tm_commands.specs.declared.status.Status.TheVariants.{Accepted, AcceptedEnvironment, Refused}
use Rattle.tm_commands.specs.declared.status.Status.TheVariants.{Budget, Driver, Environment, Structured, Unstructured}
use Rattle.tm_play.specs.declared.ending.PlayEnd.TheVariants as plays

-- the end of a command, or the failure that came before it
abbrev pub outcome_of : Status → Result Ending Failure
outcome_of Usage = Ok endings.Usage
outcome_of (Faulty f) = Ok (endings.Faulty f)
outcome_of (Played n) = Ok (endings.Play (plays.Played n))
outcome_of (Stopped step why) = Ok (endings.Play (plays.Stopped step why))
outcome_of (Driver ranks trace nodes) = Ok (endings.Driver ranks trace nodes)
outcome_of (Environment levels conditions chain trace) = Ok (endings.Environment levels conditions chain trace)
outcome_of (Budget n trace) = Ok (endings.Budget n trace)
outcome_of (Accepted ranks) = Ok (endings.Accepted ranks)
outcome_of (AcceptedEnvironment levels conditions chain) = Ok (endings.AcceptedEnvironment levels conditions chain)
outcome_of (Refused condition goal s) = Ok (endings.Refused condition goal s)
outcome_of (Generated registers) = Ok (endings.Generated registers)
outcome_of Migrated = Ok endings.Migrated
outcome_of (Structured n) = Ok (endings.Structured n)
outcome_of (Unstructured n) = Ok (endings.Unstructured n)
outcome_of (BadText file why) = Ok (endings.BadText file why)
outcome_of (ReadFault name) = Err (failures.ReadFault name)
outcome_of (WriteFault name) = Err (failures.WriteFault name)
outcome_of Memory = Err failures.Memory

-- the code of a status
abbrev pub code_of : Status → ℕ
code_of (Driver ranks trace nodes) = 0
code_of (Played n) = 0
code_of (Accepted ranks) = 0
code_of (AcceptedEnvironment levels conditions chain) = 0
code_of (Generated registers) = 0
code_of Migrated = 0
code_of (Structured n) = 0
code_of (Unstructured n) = 0
code_of (Environment levels conditions chain trace) = 1
code_of (Refused condition goal s) = 1
code_of Usage = 2
code_of (Faulty f) = 3
code_of (Budget n trace) = 4
code_of (ReadFault name) = 5
code_of (WriteFault name) = 6
code_of Memory = 7
code_of (BadText file why) = 8
code_of (Stopped step why) = 9
