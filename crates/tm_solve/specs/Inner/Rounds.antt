-- One round of the greatest fixpoint, over all goals.
use Rattle.std.specs.Prelude.{◌≡◌, ◌≢◌, ◌⊎◌, ℕ, ◌<◌, true, List, [], ◌∷◌, ◌++◌, map, length, slice_get, Some}
use Rattle.tm_dd.specs.declared.node.NodeId.{NodeId}
use Rattle.tm_sem.specs.State.{StateData}
use Rattle.tm_sem.specs.Certificates.{nowhere, RankedSet}
use Rattle.tm_solve.specs.declared.iterates.Chain.{Chain}
use Rattle.tm_solve.specs.declared.iterates.LevelSet.{LevelSet}
use Rattle.tm_solve.specs.declared.iterates.Ranking.{Ranking}
use Rattle.tm_solve.specs.declared.rounds.Remaining.{Remaining}
use Rattle.tm_solve.specs.Sets.{StateSet, IsAmong, IsSame, outside}
use Rattle.tm_solve.specs.Game.{Game}
use Rattle.tm_solve.specs.Ids.{Ids, Is}
use Rattle.tm_solve.specs.Fixpoints.{InReach, InRegion, Holds}
use Rattle.tm_solve.specs.Levels.{AreLevels, last_of_levels}
use Rattle.tm_solve.specs.Ranks.{AreRanks, last_ranked}
use Rattle.tm_solve.specs.Iterates.{Each, KnowsLevel, KnowsRanks, level_of, ranked_sets}

-- levels that lead from no state to all outside a set
pub record IsLeveled (g : Game) (ids : Ids) (region : NodeId) (items : List LevelSet) : Type 0 where
  pub known : Each (KnowsLevel ids) items
  pub levels : AreLevels g nowhere (map (level_of ids) items)
  pub last : IsSame g.states (last_of_levels nowhere (map (level_of ids) items)) (outside (ids.means region))

-- a level is all that is outside a set
pub record IsRemoved (n : List StateData) (ids : Ids) (goal : ℕ) (chains : List Chain) (left : NodeId)
    (l : LevelSet) : Type 0 where
  pub for_goal : l.goal ≡ goal
  pub set : Is n ids l.set (outside (ids.means left))
  pub keeps : l.chains.items ≡ chains

-- a level was added for what a meet lost, or it lost nothing
abbrev pub AddsLevel : List StateData → Ids → NodeId → ℕ → List Chain → NodeId → List LevelSet → List LevelSet → Type 0
AddsLevel n ids region goal chains left old new =
    ((left ≡ region) × (new ≡ old))
    ⊎ ((left ≢ region) × (l : LevelSet) × IsRemoved n ids goal chains left l × (new ≡ old ++ l ∷ []))

-- ranked sets of a goal that lead from no state to its least fixpoint
pub record RanksReach (g : Game) (z : StateSet) (j : ℕ) (ranked : List RankedSet) : Type 0 where
  pub ranks : AreRanks g z j nowhere ranked
  pub last : Holds g.states (last_ranked nowhere ranked) (InReach g z j)

-- the ranked sets of the first goals
pub record AreReached (g : Game) (ids : Ids) (z : StateSet) (count : ℕ) (items : List Ranking) : Type 0 where
  pub known : Each (λ (r : Ranking). KnowsRanks ids r.sets.items) items
  pub many : length items ≡ count
  pub each : (j : ℕ) (ranked : List RankedSet) → slice_get (map (ranked_sets ids) items) j ≡ Some ranked →
      RanksReach g z j ranked

-- the states of Z from which each of the first goals is reached
pub record RoundSoFar (g : Game) (ids : Ids) (z : StateSet) (j : ℕ) (region : NodeId) : Type 0 where
  pub known : ids.knows region
  pub set : Holds g.states (ids.means region) (λ s. (z s ≡ true) × ((k : ℕ) → k < j → InReach g z k s))

-- the states of Z from which all goals are reached, and the ranked sets of all goals
pub record IsRemaining (g : Game) (ids : Ids) (z : StateSet) (r : Remaining) : Type 0 where
  pub region : RoundSoFar g ids z g.goals r.region
  pub ranks : AreReached g ids z g.goals r.ranks.items

-- an iterate that holds the region
pub record RegionSoFar (g : Game) (ids : Ids) (z : NodeId) : Type 0 where
  pub known : ids.knows z
  pub above : (s : StateData) → IsAmong s g.states → InRegion g s → ids.means z s ≡ true
