-- Sets that meet all conditions are not refused, where there is one verdict on them.
use Rattle.std.proofs.Common.{◌≡◌, ℕ, List, sym, ◌∙◌}
use Rattle.tm_check.specs.Verdict.{IsDriverVerdict}
use Rattle.tm_envcheck.specs.Verdict.{IsEnvironmentVerdict}
use Rattle.tm_sem.specs.declared.state.Move.{Move}
use Rattle.tm_sem.specs.Certificates.{DriverSets, Level, MeetsDriver, MeetsEnvironment}
use Rattle.tm_sem.specs.State.{StateData}
use Rattle.tm_syntax.specs.Design.{DesignTree}
use Rattle.tm_verdict.specs.declared.verdict.Verdict.{Verdict}
use Rattle.tm_verdict.specs.declared.verdict.Verdict.TheVariants.{Accepted, Refused}

not_both : (condition goal : ℕ) (s : StateData) → Refused condition goal s ≡ Accepted → ⊥
not_both condition goal s e = cc

-- the sets of a driver's certificate
pub driver_never_refused : (d : DesignTree) (answers : StateData → ℕ → Move → Type 0) (sets : DriverSets)
    (verdict : Verdict) (condition goal : ℕ) (s : StateData) → MeetsDriver d answers sets →
    ((other : Verdict) → IsDriverVerdict d answers sets other → verdict ≡ other) →
    verdict ≡ Refused condition goal s → ⊥
driver_never_refused d answers sets verdict condition goal s meets only refused =
    not_both condition goal s (sym refused ∙ only Accepted meets)

-- the levels of the environment's
pub never_refused : (d : DesignTree) (levels : List Level) (verdict : Verdict) (condition goal : ℕ) (s : StateData) →
    MeetsEnvironment d levels → ((other : Verdict) → IsEnvironmentVerdict d levels other → verdict ≡ other) →
    verdict ≡ Refused condition goal s → ⊥
never_refused d levels verdict condition goal s meets only refused =
    not_both condition goal s (sym refused ∙ only Accepted meets)
