-- A text that is put, line by line, and what stops it.
use Rattle.std.specs.Prelude.{◌≡◌, ◌≤◌, ◌++◌, ℕ, Result, List, [], IsTrue, OnOk, OnErr, IfErr}
use Rattle.tm_base.specs.Sink.{AppendsPrefix}
use Rattle.tm_base.specs.declared.sink.SinkError.{SinkError}
use Rattle.tm_base.specs.declared.sink.SinkError.TheVariants as sink
use Rattle.tm_report.specs.declared.ending.Failure.{Failure}
use Rattle.tm_report.specs.declared.ending.Failure.TheVariants.{ReadFault, WriteFault, Memory}
use Rattle.tm_report.specs.Output.{SinkData, HasFailedPut}

-- memory ran out, or a put failed, which its count shows
abbrev pub IsSinkFailure : SinkData → SinkData → Failure → Type 0
IsSinkFailure out after Memory = Unit {0}
IsSinkFailure out after (ReadFault name) = ⊥
IsSinkFailure out after (WriteFault name) = (name ≡ []) × HasFailedPut out after

-- the failure of a refused `put`
abbrev pub IsFailureOf : SinkError → Failure → Type 0
IsFailureOf error Memory = error ≡ sink.Memory
IsFailureOf error (WriteFault name) = (name ≡ []) × (error ≡ sink.Failed)
IsFailureOf error (ReadFault name) = ⊥

-- the text was put, or some first part of it before a failure
pub record HasPut {T : Type 0} (text : List ℕ) (out after : SinkData) (outcome : Result T Failure) : Type 0 where
  pub whole : OnOk outcome (IsTrue out.tells → after.written ≡ out.written ++ text)
  pub cut : OnErr outcome (IsTrue out.tells → AppendsPrefix text out.written after.written)
  pub failure : IfErr outcome (IsSinkFailure out after)
  pub no_fewer_faults : out.faults ≤ after.faults
