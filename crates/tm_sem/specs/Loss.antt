-- What the environment forces against every driver.
use Rattle.std.specs.Prelude.{◌≡◌, ℕ, zero, suc, ◌<◌, ◌⊎◌, false, List, [], ◌∷◌, ◌++◌, length}
use Rattle.std.specs.List.{AllByRecursion}
use Rattle.tm_syntax.specs.Design.{DesignTree}
use Rattle.tm_sem.specs.State.{StateData}
use Rattle.tm_sem.specs.Step.{IsInitial}
use Rattle.tm_sem.specs.Play.{goal_holds}
use Rattle.tm_sem.specs.Fairness.{HasRounds}
use Rattle.tm_sem.specs.Forcing.{Forced}

-- some stretch of these states has n rounds, and some one goal holds nowhere in it
pub record IsStarved (d : DesignTree) (states : List StateData) (n : ℕ) : Type 0 where
  pub goal : ℕ
  pub is_goal : goal < length d.goals
  pub before : List StateData
  pub stretch : List StateData
  pub after : List StateData
  pub whole : states ≡ before ++ (stretch ++ after)
  pub fails : AllByRecursion (λ s. goal_holds d s goal ≡ false) stretch
  pub rounds : HasRounds d n stretch

-- after the states before, at state s, the environment forces an error or a starved stretch of n rounds, in t steps
abbrev pub Beats : DesignTree → ℕ → List StateData → StateData → ℕ → Type 0
Beats d zero before s n = IsStarved d (before ++ s ∷ []) n
Beats d (suc t) before s n =
    IsStarved d (before ++ s ∷ []) n ⊎ Forced d (λ next. Beats d t (before ++ s ∷ []) next n) s

-- the environment wins: for each number of rounds there is a state to begin with from which it forces them
abbrev pub Lost : DesignTree → Type 0
Lost d = (n : ℕ) → (first : StateData) × (t : ℕ) × IsInitial d first × Beats d t [] first n
