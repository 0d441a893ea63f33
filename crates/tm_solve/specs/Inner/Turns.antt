-- One turn of a least fixpoint, over all fairness conditions.
use Rattle.std.specs.Prelude.{◌≡◌, ◌≢◌, ◌⊎◌, ℕ, ◌<◌, true, List, [], ◌∷◌, ◌++◌, map, length, slice_get, Some}
use Rattle.tm_dd.specs.declared.node.NodeId.{NodeId}
use Rattle.tm_sem.specs.State.{StateData}
use Rattle.tm_sem.specs.Certificates.{nowhere}
use Rattle.tm_solve.specs.declared.iterates.RankSet.{RankSet}
use Rattle.tm_solve.specs.declared.iterates.Chain.{Chain}
use Rattle.tm_solve.specs.declared.turns.Turned.{Turned}
use Rattle.tm_solve.specs.Sets.{StateSet, IsAmong, IsWithin, IsSame}
use Rattle.tm_solve.specs.Game.{Game}
use Rattle.tm_solve.specs.Ids.{Ids}
use Rattle.tm_solve.specs.Fixpoints.{InStay, InSome, Holds}
use Rattle.tm_solve.specs.Ranks.{AreRanks, last_ranked}
use Rattle.tm_solve.specs.Iterates.{Each, KnowsChain, KnowsRanks, chain_sets, ranked_set}
use Rattle.tm_solve.specs.Inner.Waits.{IsChain}

-- ranked sets of a goal that lead from no state to a set
pub record IsRanked (g : Game) (ids : Ids) (z : StateSet) (j : ℕ) (y : NodeId) (items : List RankSet) : Type 0 where
  pub known : KnowsRanks ids items
  pub ranks : AreRanks g z j nowhere (map (ranked_set ids) items)
  pub last : IsSame g.states (last_ranked nowhere (map (ranked_set ids) items)) (ids.means y)

-- a ranked set was added for a new union, or the union did not grow
abbrev pub AddsRank : NodeId → ℕ → NodeId → List RankSet → List RankSet → Type 0
AddsRank set fair grown old new =
    ((grown ≡ set) × (new ≡ old)) ⊎ ((grown ≢ set) × (new ≡ old ++ record { fair = fair; set = grown } ∷ []))

-- the chains of the first conditions
pub record AreChains (g : Game) (ids : Ids) (z y : StateSet) (j : ℕ) (count : ℕ) (chains : List Chain) : Type 0 where
  pub known : Each (KnowsChain ids) chains
  pub many : length chains ≡ count
  pub each : (i : ℕ) (sets : List StateSet) → slice_get (map (chain_sets ids) chains) i ≡ Some sets →
      IsChain g z y j i sets

-- Y and all states that wait for some condition, and a chain for each condition
pub record IsTurned (g : Game) (ids : Ids) (z y : StateSet) (j : ℕ) (t : Turned) : Type 0 where
  pub known : ids.knows t.set
  pub set : Holds g.states (ids.means t.set) (λ s. (y s ≡ true) ⊎ InSome g z y j s)
  pub chains : AreChains g ids z y j g.fairs t.chains.items

-- a set that holds Y and all states that wait for one of the first conditions, and beside these only states that wait
-- for some condition; and a chain for each of the first conditions
pub record TurnsSoFar (g : Game) (ids : Ids) (z y : StateSet) (j i : ℕ) (set : NodeId)
    (chains : List Chain) : Type 0 where
  pub known : ids.knows set
  pub only : (s : StateData) → IsAmong s g.states → ids.means set s ≡ true → (y s ≡ true) ⊎ InSome g z y j s
  pub holds : IsWithin g.states y (ids.means set)
  pub all : (k : ℕ) → k < i → (s : StateData) → IsAmong s g.states → InStay g z y j k s → ids.means set s ≡ true
  pub each : AreChains g ids z y j i chains
