-- The states from which a goal is reached.
use Rattle.std.specs.Prelude.{◌≡◌, ℕ, true, List, map, length, slice_get, Some}
use Rattle.tm_dd.specs.declared.node.NodeId.{NodeId}
use Rattle.tm_sem.specs.State.{StateData}
use Rattle.tm_sem.specs.Certificates.{nowhere}
use Rattle.tm_solve.specs.declared.goals.Reached.{Reached}
use Rattle.tm_solve.specs.declared.iterates.Chain.{Chain}
use Rattle.tm_solve.specs.Sets.{StateSet, IsAmong, IsSame, outside, common}
use Rattle.tm_solve.specs.Game.{Game}
use Rattle.tm_solve.specs.Ids.{Ids}
use Rattle.tm_solve.specs.Fixpoints.{InReach, Holds}
use Rattle.tm_solve.specs.Levels.{AreLinks, last_link}
use Rattle.tm_solve.specs.Iterates.{Each, KnowsChain, chain_sets}
use Rattle.tm_solve.specs.Inner.Turns.{IsRanked}

-- a chain leads from no state to all that is in Z and outside Y
pub record LeadsOut (g : Game) (z y : StateSet) (j i : ℕ) (sets : List StateSet) : Type 0 where
  pub links : AreLinks g z y j i nowhere sets
  pub ends : IsSame g.states (common (outside (last_link nowhere sets)) z) y

-- one for each condition
pub record LeadOut (g : Game) (ids : Ids) (z y : StateSet) (j : ℕ) (chains : List Chain) : Type 0 where
  pub known : Each (KnowsChain ids) chains
  pub many : length chains ≡ g.fairs
  pub each : (i : ℕ) (sets : List StateSet) → slice_get (map (chain_sets ids) chains) i ≡ Some sets →
      LeadsOut g z y j i sets

-- the least fixpoint, its ranked sets, and a chain for each condition
pub record IsReached (g : Game) (ids : Ids) (z : StateSet) (j : ℕ) (r : Reached) : Type 0 where
  pub known : ids.knows r.set
  pub set : Holds g.states (ids.means r.set) (InReach g z j)
  pub ranked : IsRanked g ids z j r.set r.ranks.sets.items
  pub chains : LeadOut g ids z (ids.means r.set) j r.chains.items

-- an iterate that lies in the fixpoint
pub record ReachSoFar (g : Game) (ids : Ids) (z : StateSet) (j : ℕ) (y : NodeId) : Type 0 where
  pub known : ids.knows y
  pub below : (s : StateData) → IsAmong s g.states → ids.means y s ≡ true → InReach g z j s
