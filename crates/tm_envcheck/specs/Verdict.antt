-- The verdict on an environment's certificate.
use Rattle.std.specs.Prelude.{ℕ, ◌+◌, ◌*◌, List, [], length}
use Rattle.tm_verdict.specs.Regular.{IsRegular}
use Rattle.tm_game.specs.Game.{GameData, IsOf}
use Rattle.tm_sem.specs.Certificates.{Level, MeetsEnvironment, longest_chain}
use Rattle.tm_sem.specs.Fairness.{conditions}
use Rattle.tm_sem.specs.Loss.{Beats}
use Rattle.tm_sem.specs.State.{StateData}
use Rattle.tm_sem.specs.Step.{IsInitial}
use Rattle.tm_syntax.specs.Design.{DesignTree}
use Rattle.tm_verdict.specs.declared.verdict.Verdict.{Verdict}
use Rattle.tm_verdict.specs.declared.verdict.Verdict.TheVariants.{Accepted, Refused}
use Rattle.tm_verdict.specs.Environment.{IsRefused}

-- a design of a game whose steps keep to valid states, which are all that it begins in, and which begins somewhere
pub record CanCheck (d : DesignTree) (g : GameData) : Type 0 where
  pub of : IsOf d g
  pub regular : IsRegular d
  pub begins : (s : StateData) × IsInitial d s

-- accepted, where the levels are a certificate; refused, with the first condition that fails, its goal and its least
-- state
abbrev pub IsEnvironmentVerdict : DesignTree → List Level → Verdict → Type 0
IsEnvironmentVerdict d levels Accepted = MeetsEnvironment d levels
IsEnvironmentVerdict d levels (Refused condition goal s) = IsRefused d levels condition goal s

-- the environment forces an error or a stretch of any number of rounds without some goal, in as many steps as the
-- levels tell
abbrev pub IsLostWithin : DesignTree → List Level → Type 0
IsLostWithin d levels =
    (n : ℕ) → (first : StateData) × IsInitial d first
    × Beats d (length levels * (n * (length (conditions d) * longest_chain levels) + 1)) [] first n
