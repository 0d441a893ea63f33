-- The game of a design with its pool is as deciding asks.
use Rattle.std.specs.Prelude.{◌≡◌, ℕ, List, length}
use Rattle.tm_flat_pool.specs.Predicates.{pool}
use Rattle.tm_game.specs.Game.{GameData}
use Rattle.tm_game_pool.specs.Separating.{Separates, predicates_at}
use Rattle.tm_game_pool.proofs.Separated as separated
use Rattle.tm_refine.specs.Parts.{TellCells}
use Rattle.tm_refine.specs.Pooled.{CanDecide, tests_of}
use Rattle.tm_refine.specs.PoolTests.{pool_long, tests_tell}
use Rattle.tm_solve.specs.Exact.{IsGameOf}
use Rattle.tm_solve.specs.Operator.{Operator}
use Rattle.tm_solve_exact.specs.Exact.{exact_game, exact_operator}
use Rattle.tm_solve_exact.proofs.Exactness.{exact_is}
use Rattle.tm_syntax.specs.Design.{DesignTree}

pub pool_size : (g : GameData) (d : DesignTree) → CanDecide d g → length (pool d) ≡ length g.flat.pool
pool_size g d can = pool_long d g can.pool

pub pool_separates : (g : GameData) (d : DesignTree) → CanDecide d g → Separates d (pool d)
pool_separates g d can = separated.pool_separates d can.solve.exact.ordered.of.small

pub pool_exact : (g : GameData) (d : DesignTree) → CanDecide d g → (op : Operator) × IsGameOf d op (exact_game g)
pool_exact g d can = (exact_operator g, exact_is d g can.solve)

pub pool_cells : (g : GameData) (d : DesignTree) (ks : List ℕ) → CanDecide d g →
    TellCells d (predicates_at (pool d) ks) (tests_of g ks)
pool_cells g d ks can = tests_tell d g can.pool ks
