-- The states in which a fairness condition is waited for.
use Rattle.std.specs.Prelude.{◌≡◌, ℕ, true, List, map}
use Rattle.tm_dd.specs.declared.node.NodeId.{NodeId}
use Rattle.tm_sem.specs.State.{StateData}
use Rattle.tm_sem.specs.Certificates.{nowhere}
use Rattle.tm_solve.specs.declared.conditions.Waited.{Waited}
use Rattle.tm_solve.specs.Sets.{StateSet, IsAmong, IsWithin, IsSame, outside, common}
use Rattle.tm_solve.specs.Game.{Game}
use Rattle.tm_solve.specs.Ids.{Ids}
use Rattle.tm_solve.specs.Fixpoints.{InStay, Holds}
use Rattle.tm_solve.specs.Levels.{AreLinks, last_link}
use Rattle.tm_solve.specs.Iterates.{Each, KnowsChain, chain_sets}

-- a chain leads from no state to all that is in Z and outside a fixpoint nu X . part(Z, Y, X, j, i)
pub record IsChain (g : Game) (z y : StateSet) (j i : ℕ) (sets : List StateSet) : Type 0 where
  pub links : AreLinks g z y j i nowhere sets
  pub stays : Holds g.states (common (outside (last_link nowhere sets)) z) (InStay g z y j i)

-- the fixpoint, and a chain that leads to it
pub record IsWaited (g : Game) (ids : Ids) (z y : StateSet) (j i : ℕ) (w : Waited) : Type 0 where
  pub known : ids.knows w.set
  pub set : Holds g.states (ids.means w.set) (InStay g z y j i)
  pub chain_known : KnowsChain ids w.chain
  pub chain : IsChain g z y j i (chain_sets ids w.chain)

-- an iterate that still holds the fixpoint, and the chain that leads to it
pub record WaitsSoFar (g : Game) (ids : Ids) (z y : StateSet) (j i : ℕ) (x : NodeId)
    (items : List NodeId) : Type 0 where
  pub known : ids.knows x
  pub above : (s : StateData) → IsAmong s g.states → InStay g z y j i s → ids.means x s ≡ true
  pub falls : IsWithin g.states (g.part z y (ids.means x) j i) (ids.means x)
  pub chain_known : Each ids.knows items
  pub links : AreLinks g z y j i nowhere (map ids.means items)
  pub ends : IsSame g.states (common (outside (last_link nowhere (map ids.means items))) z) (ids.means x)
