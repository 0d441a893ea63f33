-- The cells that calls are asked for.
-- d a design, g the data of a game, ks the numbers of the tracked predicates in the pool.
use Rattle.std.specs.Prelude.{ℕ, ◌<◌, List, All, length}
use Rattle.tm_flat_pool.specs.Predicates.{Predicate, pool}
use Rattle.tm_game.specs.Game.{GameData, IsOf}
use Rattle.tm_game_pool.specs.Pooled.{HasPool}
use Rattle.tm_game_pool.specs.Separating.{predicates_at}
use Rattle.tm_syntax.specs.Design.{DesignTree}

-- a game is that of a design, and has its pool
pub record IsPooled (d : DesignTree) (g : GameData) : Type 0 where
  pub of : IsOf d g
  pub pool : HasPool d g

-- a game is that of some design, and has its pool
abbrev pub HasPooled : GameData → Type 0
HasPooled g = ∥ ((d : DesignTree) × IsPooled d g) ∥₁

-- each number is that of a predicate of the pool
abbrev pub AreInPool : GameData → List ℕ → Type 0
AreInPool g ks = All (λ k. k < length g.flat.pool) ks

-- the tracked predicates
abbrev pub tracked_of : DesignTree → List ℕ → List Predicate
tracked_of d ks = predicates_at (pool d) ks
