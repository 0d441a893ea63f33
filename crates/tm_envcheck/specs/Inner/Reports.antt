-- Verdicts on one part of a condition.
use Rattle.std.specs.Prelude.{◌≡◌, ℕ, Bool}
use Rattle.tm_game.specs.Least.{HoldsNowhere}
use Rattle.tm_sem.specs.Certificates.{IsIn}
use Rattle.tm_sem.specs.State.{StateData}
use Rattle.tm_sem.specs.StateBits.{IsLeast}
use Rattle.tm_sem.specs.Step.{IsInitial}
use Rattle.tm_syntax.specs.Design.{DesignTree}
use Rattle.tm_verdict.specs.declared.verdict.Verdict.{Verdict}
use Rattle.tm_verdict.specs.declared.verdict.Verdict.TheVariants.{Accepted, Refused}
use Rattle.tm_verdict.specs.Reported.{IsFirstOf}

-- refused at the least valid state of a set, and accepted where there is none
abbrev pub IsFailure : DesignTree → (StateData → Bool) → ℕ → ℕ → Verdict → Type 0
IsFailure d set condition goal Accepted = HoldsNowhere d set
IsFailure d set condition goal (Refused number of_goal s) =
    (number ≡ condition) × (of_goal ≡ goal) × IsLeast d set s

-- refused at the first initial state
abbrev pub IsInitialReport : DesignTree → ℕ → ℕ → Verdict → Type 0
IsInitialReport d condition goal Accepted = ⊥
IsInitialReport d condition goal (Refused number of_goal s) =
    (number ≡ condition) × (of_goal ≡ goal) × IsFirstOf d (IsInitial d) s

-- accepted where a set has a valid state, and else refused at the first initial state
abbrev pub IsWant : DesignTree → (StateData → Bool) → ℕ → ℕ → Verdict → Type 0
IsWant d set condition goal Accepted = (s : StateData) × IsIn d set s
IsWant d set condition goal (Refused number of_goal s) =
    HoldsNowhere d set × (number ≡ condition) × (of_goal ≡ goal) × IsFirstOf d (IsInitial d) s
