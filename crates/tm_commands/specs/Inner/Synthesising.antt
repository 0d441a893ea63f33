-- What `synth` does once SPEC was read as a design d: it writes what was found within a budget, and puts its lines.
-- Here `old` and `new` are the files before and after that, `sink` and `after` the output.
use Rattle.std.specs.Prelude.{◌≡◌, ◌⊎◌, ◌++◌, ◌≤◌, ℕ, Option, Some, Result, List, [], ◌∷◌, IsTrue, IfOk, IfErr}
use Rattle.tm_base.specs.Sink.{AppendsPrefix}
use Rattle.tm_report.specs.Output.{SinkData, HasFailedPut}
use Rattle.tm_refine.specs.Decided.{IsWithin}
use Rattle.tm_refine.specs.declared.trace.Trace.{Trace}
use Rattle.tm_report.specs.Report.{budget_text, driver_found_text, environment_found_text}
use Rattle.tm_report.specs.declared.ending.Ending.{Ending}
use Rattle.tm_report.specs.declared.ending.Ending.TheVariants.{Budget, Driver, Environment}
use Rattle.tm_report.specs.declared.ending.Failure.{Failure}
use Rattle.tm_report.specs.declared.ending.Failure.TheVariants.{ReadFault, WriteFault, Memory}
use Rattle.tm_sem.specs.Loss.{Lost}
use Rattle.tm_synth.specs.Found.{IsBudgetSpent, IsDriverFound, IsEnvironmentFound}
use Rattle.tm_syntax.specs.Design.{DesignTree}
use Rattle.tm_commands.specs.Inputs.{Tells}
use Rattle.tm_commands.specs.Synthesise.{cert_name, driver_name}
use Rattle.tm_commands.specs.World.{FilesData, HasFailedWrite, OnlyTouches}

-- it comes to an end, with its lines: the files of a driver are written, or that of the environment, or none is as the
-- budget is spent
pub data Finishes (d : DesignTree) (budget : Option ℕ) (out : List ℕ) (old new : FilesData) :
    List ℕ → Ending → Type 0 where
  finds_driver : {driver cert : List ℕ} (ranks : List ℕ) (trace : Trace) (nodes : ℕ) →
      IsWithin budget trace →
      IsDriverFound d driver cert ranks nodes trace →
      (IsTrue old.tells → Tells new.contents (driver_name out) driver) →
      (IsTrue old.tells → Tells new.contents (cert_name out) cert) →
      Finishes d budget out old new (driver_found_text d ranks trace nodes) (Driver ranks trace nodes)
  finds_none : {cert : List ℕ} (levels many chain : ℕ) (trace : Trace) →
      IsWithin budget trace →
      IsEnvironmentFound d cert levels many chain trace →
      (IsTrue old.tells → Tells new.contents (cert_name out) cert) →
      new.contents (driver_name out) ≡ old.contents (driver_name out) →
      Finishes d budget out old new (environment_found_text d levels many chain trace)
      (Environment levels many chain trace)
  spends : (n : ℕ) (trace : Trace) → budget ≡ Some n → IsBudgetSpent d budget trace → new.contents ≡ old.contents →
      Finishes d budget out old new (budget_text d n trace) (Budget n trace)

-- a write fails, at OUT.c or at OUT.cert: what the other file holds
pub data BreaksOff (d : DesignTree) (out : List ℕ) (old new : FilesData) (name : List ℕ) : Type 0 where
  at_driver : name ≡ driver_name out → new.contents (cert_name out) ≡ old.contents (cert_name out) →
      BreaksOff d out old new name
  at_cert : {driver cert : List ℕ} (ranks : List ℕ) (trace : Trace) (nodes : ℕ) → name ≡ cert_name out →
      IsDriverFound d driver cert ranks nodes trace →
      (IsTrue old.tells → Tells new.contents (driver_name out) driver) → BreaksOff d out old new name
  at_loss : name ≡ cert_name out → Lost d → new.contents (driver_name out) ≡ old.contents (driver_name out) →
      BreaksOff d out old new name

-- some first part of the lines of an end was put
abbrev pub HasPutPart : DesignTree → Option ℕ → List ℕ → FilesData → FilesData → SinkData → SinkData → Type 0
HasPutPart d budget out old new sink after =
    (text : List ℕ) × (ending : Ending) × Finishes d budget out old new text ending
    × (IsTrue sink.tells → AppendsPrefix text sink.written after.written)

-- what keeps it from its end: a failed put behind all writes, a failed write before any put, or want of memory
abbrev pub FailsSo :
    DesignTree → Option ℕ → List ℕ → FilesData → FilesData → SinkData → SinkData → Failure → Type 0
FailsSo d budget out old new sink after (ReadFault name) = ⊥
FailsSo d budget out old new sink after (WriteFault []) =
    HasFailedPut sink after × HasPutPart d budget out old new sink after
FailsSo d budget out old new sink after (WriteFault (b ∷ bs)) =
    BreaksOff d out old new (b ∷ bs) × HasFailedWrite old new (b ∷ bs) × (after ≡ sink)
FailsSo d budget out old new sink after Memory = (after ≡ sink) ⊎ HasPutPart d budget out old new sink after

-- it came to an end, or failed
pub record Synthesises (d : DesignTree) (budget : Option ℕ) (out : List ℕ) (old new : FilesData)
    (sink after : SinkData) (outcome : Result Ending Failure) : Type 0 where
  pub ended : IfOk outcome (λ ending. (text : List ℕ) × Finishes d budget out old new text ending
      × (IsTrue sink.tells → after.written ≡ sink.written ++ text))
  pub failed : IfErr outcome (FailsSo d budget out old new sink after)
  pub touched : OnlyTouches [] (driver_name out ∷ cert_name out ∷ []) old new
  pub no_fewer_faults : sink.faults ≤ after.faults

-- what a failed write of the files of a driver leaves, where OUT.c is to hold this text
pub data LeavesDriver (out driver : List ℕ) (old new : FilesData) (name : List ℕ) : Type 0 where
  no_driver : name ≡ driver_name out → new.contents (cert_name out) ≡ old.contents (cert_name out) →
      LeavesDriver out driver old new name
  no_cert : name ≡ cert_name out → (IsTrue old.tells → Tells new.contents (driver_name out) driver) →
      LeavesDriver out driver old new name

-- the files of a driver were not written: memory ran out, or a write failed, which its count shows
abbrev pub IsDriverUnwritten : (out driver : List ℕ) → FilesData → FilesData → Failure → Type 0
IsDriverUnwritten out driver old new Memory = Unit {0}
IsDriverUnwritten out driver old new (ReadFault name) = ⊥
IsDriverUnwritten out driver old new (WriteFault name) =
    LeavesDriver out driver old new name × HasFailedWrite old new name
