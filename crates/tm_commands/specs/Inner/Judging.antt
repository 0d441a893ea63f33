-- Certificates that were read and judged, and the lines of their verdicts.
use Rattle.std.specs.Prelude.{◌≡◌, ◌⊎◌, ◌++◌, ℕ, Bool, Option, List, [], IsTrue, length, map}
use Rattle.tm_base.specs.Sink.{AppendsPrefix}
use Rattle.tm_cert.specs.Cert.{DriverData, EnvData}
use Rattle.tm_check.specs.Verdict.{IsDriverVerdict}
use Rattle.tm_cir.specs.Answer.{Answers}
use Rattle.tm_cir.specs.Tree.{BlockTree}
use Rattle.tm_envcheck.specs.Verdict.{IsEnvironmentVerdict}
use Rattle.tm_judge.specs.Judged.{CanJudgeDriver, CanJudgeEnvironment}
use Rattle.tm_sem.specs.Certificates.{longest_chain}
use Rattle.tm_sem.specs.Fairness.{conditions}
use Rattle.tm_verdict.specs.Sets.{driver_sets, levels_of}
use Rattle.tm_syntax.specs.Design.{DesignTree}
use Rattle.tm_verdict.specs.declared.verdict.Verdict.{Verdict}
use Rattle.tm_report.specs.declared.ending.Ending.{Ending}
use Rattle.tm_commands.specs.Check.{TellsDriver, TellsEnvironment, driver_end, driver_text, environment_end}
use Rattle.tm_commands.specs.Check.{environment_text}
use Rattle.tm_report.specs.Output.{SinkData}

-- files were read as blocks and a certificate that can be judged; where the files tell, they are what they tell
pub record IsDriverRead (tells : Bool) (contents : List ℕ → Option (List ℕ)) (spec driver cert : List ℕ)
    (d : DesignTree) (bs : List BlockTree) (c : DriverData) : Type 0 where
  pub can : CanJudgeDriver d bs c
  pub told : IsTrue tells → TellsDriver contents spec driver cert d bs c

-- so as an environment's certificate
pub record IsEnvironmentRead (tells : Bool) (contents : List ℕ → Option (List ℕ)) (spec cert : List ℕ)
    (d : DesignTree) (c : EnvData) (fairs : ℕ) : Type 0 where
  pub can : CanJudgeEnvironment d c
  pub told : IsTrue tells → TellsEnvironment contents spec cert d c
  pub fairs_are : fairs ≡ length (conditions d)

-- the verdict on a driver, which is the only one
pub record IsVerdictOn (d : DesignTree) (bs : List BlockTree) (c : DriverData) (v : Verdict) : Type 0 where
  pub is : IsDriverVerdict d (Answers bs) (driver_sets d c) v
  pub only : (other : Verdict) → IsDriverVerdict d (Answers bs) (driver_sets d c) other → v ≡ other

-- the verdict on an environment, which is the only one
pub record IsVerdictOnLevels (d : DesignTree) (c : EnvData) (v : Verdict) : Type 0 where
  pub is : IsEnvironmentVerdict d (levels_of d c) v
  pub only : (other : Verdict) → IsEnvironmentVerdict d (levels_of d c) other → v ≡ other

-- a driver was judged, and the lines of the verdict were put
abbrev pub HasJudgedDriver : DesignTree → List BlockTree → DriverData → SinkData → SinkData → Ending → Type 0
HasJudgedDriver d bs c out after ending =
    (v : Verdict) × IsVerdictOn d bs c v × (ending ≡ driver_end (map length c.goals) v)
    × (IsTrue out.tells → after.written ≡ out.written ++ driver_text d (map length c.goals) v)

-- nothing was put, or some first part of these lines
abbrev pub HasCutDriver : DesignTree → List BlockTree → DriverData → SinkData → SinkData → Type 0
HasCutDriver d bs c out after =
    (text : List ℕ) × ((text ≡ []) ⊎ ((v : Verdict) × IsVerdictOn d bs c v
    × (text ≡ driver_text d (map length c.goals) v)))
    × (IsTrue out.tells → AppendsPrefix text out.written after.written)

-- so for an environment
abbrev pub HasJudgedEnvironment : DesignTree → EnvData → SinkData → SinkData → Ending → Type 0
HasJudgedEnvironment d c out after ending =
    (v : Verdict) × IsVerdictOnLevels d c v
    × (ending ≡ environment_end (length c.levels) (length (conditions d)) (longest_chain (levels_of d c)) v)
    × (IsTrue out.tells → after.written ≡ out.written
    ++ environment_text d (length c.levels) (length (conditions d)) (longest_chain (levels_of d c)) v)

-- and cut off for an environment
abbrev pub HasCutEnvironment : DesignTree → EnvData → SinkData → SinkData → Type 0
HasCutEnvironment d c out after =
    (text : List ℕ) × ((text ≡ []) ⊎ ((v : Verdict) × IsVerdictOnLevels d c v
    × (text ≡ environment_text d (length c.levels) (length (conditions d)) (longest_chain (levels_of d c)) v)))
    × (IsTrue out.tells → AppendsPrefix text out.written after.written)
