-- Ranked sets of a goal: how its states are reached.
use Rattle.std.specs.Prelude.{◌≡◌, ℕ, ◌<◌, true, false, List, [], ◌∷◌, length}
use Rattle.tm_sem.specs.State.{StateData}
use Rattle.tm_sem.specs.Certificates.{RankedSet, DriverSets, AreRanked, nowhere}
use Rattle.tm_solve.specs.Sets.{StateSet, IsAmong, IsWithin, IsSame, Gains}
use Rattle.tm_solve.specs.Game.{Game}

-- a ranked set holds the set before it and a new state; each new state steps into the region with the goal, or into the
-- set before, or waits in the ranked set for its condition
pub record IsRank (g : Game) (region : StateSet) (j : ℕ) (before : StateSet) (r : RankedSet) : Type 0 where
  pub fair : r.fair < g.fairs
  pub grows : IsWithin g.states before r.set
  pub gains : Gains g.states before r.set
  pub reached : (s : StateData) → IsAmong s g.states → before s ≡ false → r.set s ≡ true →
      g.part region before r.set j r.fair s ≡ true

-- each is one over the set before it
abbrev pub AreRanks : Game → StateSet → ℕ → StateSet → List RankedSet → Type 0
AreRanks g region j before [] = Unit {0}
AreRanks g region j before (r ∷ rs) = IsRank g region j before r × AreRanks g region j r.set rs

-- the last set, or the one before the first where there is none
abbrev pub last_ranked : StateSet → List RankedSet → StateSet
last_ranked before [] = before
last_ranked before (r ∷ rs) = last_ranked r.set rs

-- ranked sets of a goal that lead from no state to the whole region
pub record RankGoal (g : Game) (region : StateSet) (j : ℕ) (ranked : List RankedSet) : Type 0 where
  pub ranks : AreRanks g region j nowhere ranked
  pub last : IsSame g.states (last_ranked nowhere ranked) region

-- one list of ranked sets for each goal
pub record RanksFit (g : Game) (c : DriverSets) : Type 0 where
  pub goals : length c.goals ≡ g.goals
  pub each : (j : ℕ) (ranked : List RankedSet) → AreRanked c j ranked → RankGoal g c.region j ranked
