-- The safe states of a set, and how they are found.
-- g the game, a and b what ids mean before and after, z the set of before and left that of after, old and new the
-- levels.
use Rattle.std.specs.Prelude.{◌≡◌, ℕ, List, [], ◌∷◌, length}
use Rattle.tm_dd.specs.declared.node.NodeId.{NodeId}
use Rattle.tm_solve.specs.declared.iterates.Chain.{Chain}
use Rattle.tm_solve.specs.declared.iterates.LevelSet.{LevelSet}
use Rattle.tm_solve.specs.Sets.{IsWithin}
use Rattle.tm_solve.specs.Game.{Game}
use Rattle.tm_solve.specs.Ids.{Ids}
use Rattle.tm_solve.specs.Iterates.{Each}
use Rattle.tm_solve.specs.Inner.Rounds.{IsLeveled, RegionSoFar}

-- a set lies in another, holds the region if that does, and levels lead to all outside it if levels led to all outside
-- that
pub record Keeps (g : Game) (a b : Ids) (z left : NodeId) (old new : List LevelSet) : Type 0 where
  pub known : b.knows left
  pub falls : IsWithin g.states (b.means left) (a.means z)
  pub region : RegionSoFar g a z → RegionSoFar g b left
  pub leveled : IsLeveled g a z old → IsLeveled g b left new

-- so many chains, each of one and the same set
pub record AreSingle (set : NodeId) (count : ℕ) (chains : List Chain) : Type 0 where
  pub many : length chains ≡ count
  pub each : Each (λ (c : Chain). c.sets.items ≡ set ∷ []) chains
