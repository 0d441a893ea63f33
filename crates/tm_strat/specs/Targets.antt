-- Sets in which moves are to end. g is a game, and it a solution.
use Rattle.std.specs.Prelude.{◌≡◌, ℕ, List, Some, slice_get}
use Rattle.tm_dd.specs.declared.node.NodeId.{NodeId}
use Rattle.tm_game.specs.Game.{GameData, IsSet}
use Rattle.tm_solve.specs.declared.iterates.Iterates.{Iterates}
use Rattle.tm_solve.specs.declared.iterates.RankSet.{RankSet}
use Rattle.tm_solve.specs.declared.iterates.Ranking.{Ranking}

-- each id is a set of a game
pub record AreSets (g : GameData) (ids : List NodeId) : Type 0 where
  pub each : (k : ℕ) (id : NodeId) → slice_get ids k ≡ Some id → IsSet g id

-- each ranked set is one
pub record HasSets (g : GameData) (ranks : List RankSet) : Type 0 where
  pub each : (k : ℕ) (r : RankSet) → slice_get ranks k ≡ Some r → IsSet g r.set

-- the region of a solution and each of its ranked sets are
pub record AreSetsOf (g : GameData) (it : Iterates) : Type 0 where
  pub region : IsSet g it.region
  pub ranks : (j : ℕ) (r : Ranking) → slice_get it.ranks.items j ≡ Some r → HasSets g r.sets.items
