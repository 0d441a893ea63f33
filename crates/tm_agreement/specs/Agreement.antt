-- Sets of states that agree at the valid states, and certificates of such sets.
use Rattle.std.specs.Prelude.{◌≡◌, Bool, List}
use Rattle.std.specs.List.{AllZip}
use Rattle.tm_sem.specs.Certificates.{DriverSets, Level, RankedSet}
use Rattle.tm_syntax.specs.Design.{DesignTree}
use Rattle.tm_sem.specs.State.{StateData}
use Rattle.tm_sem.specs.Step.{IsState}

-- two sets hold the same valid states
pub record Agree (d : DesignTree) (a b : StateData → Bool) : Type 0 where
  pub same : (s : StateData) → IsState d s → a s ≡ b s

-- two ranked regions wait for the same condition and hold the same valid states
pub record RankedAgree (d : DesignTree) (a b : RankedSet) : Type 0 where
  pub fair : a.fair ≡ b.fair
  pub set : Agree d a.set b.set

-- the sets of two certificates of drivers do, part by part
pub record DriversAgree (d : DesignTree) (x y : DriverSets) : Type 0 where
  pub region : Agree d x.region y.region
  pub goals : AllZip (AllZip (RankedAgree d)) x.goals y.goals

-- two levels have the same goal, and their sets agree
pub record LevelAgrees (d : DesignTree) (a b : Level) : Type 0 where
  pub goal : a.goal ≡ b.goal
  pub set : Agree d a.set b.set
  pub chains : AllZip (AllZip (Agree d)) a.chains b.chains

-- so do the levels of two certificates of the environment
abbrev pub LevelsAgree : DesignTree → List Level → List Level → Type 0
LevelsAgree d xs ys = AllZip (LevelAgrees d) xs ys
