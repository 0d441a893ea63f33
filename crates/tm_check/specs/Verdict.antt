-- The verdict on a driver's certificate.
use Rattle.std.specs.Prelude.{ℕ}
use Rattle.tm_sem.specs.declared.state.Move.{Move}
use Rattle.tm_sem.specs.Certificates.{DriverSets, MeetsDriver}
use Rattle.tm_sem.specs.State.{StateData}
use Rattle.tm_syntax.specs.Design.{DesignTree}
use Rattle.tm_verdict.specs.declared.verdict.Verdict.{Verdict}
use Rattle.tm_verdict.specs.declared.verdict.Verdict.TheVariants.{Accepted, Refused}
use Rattle.tm_verdict.specs.Driver.{IsRefused}

-- accepted, where the sets are a certificate of the strategy; refused, with the first condition that fails, its goal
-- and its least state
abbrev pub IsDriverVerdict : DesignTree → (StateData → ℕ → Move → Type 0) → DriverSets → Verdict → Type 0
IsDriverVerdict d answers c Accepted = MeetsDriver d answers c
IsDriverVerdict d answers c (Refused condition goal s) = IsRefused d answers c condition goal s
