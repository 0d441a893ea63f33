-- Iterates from which a solution may go on, and what is copied of them.
use Rattle.std.specs.Prelude.{◌≡◌, ℕ, true, List, [], map}
use Rattle.tm_dd.specs.declared.node.NodeId.{NodeId}
use Rattle.tm_sem.specs.State.{StateData}
use Rattle.tm_solve.specs.declared.iterates.Iterates.{Iterates}
use Rattle.tm_solve.specs.declared.iterates.LevelSet.{LevelSet}
use Rattle.tm_solve.specs.declared.iterates.Chain.{Chain}
use Rattle.tm_solve.specs.Sets.{IsAmong}
use Rattle.tm_solve.specs.Game.{Game}
use Rattle.tm_solve.specs.Ids.{Ids}
use Rattle.tm_solve.specs.Fixpoints.{InRegion}
use Rattle.tm_solve.specs.Iterates.{KnowsAll, levels_of}
use Rattle.tm_solve.specs.Levels.{LevelsFit}

-- each id is known, the set holds the region, and the levels lead from no state to all that is outside the set
pub record IsBegun (g : Game) (ids : Ids) (it : Iterates) : Type 0 where
  pub known : KnowsAll ids it
  pub above : (s : StateData) → IsAmong s g.states → InRegion g s → ids.means it.region s ≡ true
  pub levels : LevelsFit g (ids.means it.region) (levels_of ids it)

-- the ids of a chain
abbrev pub ids_of : Chain → List NodeId
ids_of c = c.sets.items

-- a level by its goal, its set and the ids of its chains, wherever they stand in memory
pub record PlainLevel : Type 0 where
  pub goal : ℕ
  pub set : NodeId
  pub chains : List (List NodeId)

abbrev pub plain_level : LevelSet → PlainLevel
plain_level l = record { goal = l.goal; set = l.set; chains = map ids_of l.chains.items }

-- a copy has the set and the levels of other iterates, and no ranked sets
pub record IsCopy (it copy : Iterates) : Type 0 where
  pub region : copy.region ≡ it.region
  pub ranks : copy.ranks.items ≡ []
  pub levels : map plain_level copy.levels.items ≡ map plain_level it.levels.items
