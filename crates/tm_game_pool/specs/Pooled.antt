-- A game that has the pool of its design.
-- d a design, g the data of a game.
use Rattle.std.specs.Prelude.{◌≡◌}
use Rattle.std.specs.List.{AllZip}
use Rattle.tm_flat_pool.specs.PoolTerms.{IsPredicateTerm}
use Rattle.tm_flat_pool.specs.Predicates.{pool}
use Rattle.tm_game.specs.Game.{GameData}
use Rattle.tm_syntax.specs.Design.{DesignTree}
use Rattle.tm_syntax.specs.Design.Atoms.{first_atoms}

-- the terms of a game's pool are those of the design's predicates, in order, and the first of them are as many as the
-- atoms of its goals and declared fairness conditions
pub record HasPool (d : DesignTree) (g : GameData) : Type 0 where
  pub predicates : AllZip (IsPredicateTerm g.terms d) (pool d) g.flat.pool
  pub first : g.flat.first ≡ first_atoms d
