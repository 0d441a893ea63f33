-- What a decision leaves to be written. Here d is the design, `trace` the predicates that were tracked, and g the game
-- that was decided.
use Rattle.std.specs.Prelude.{ℕ, List, Option}
use Rattle.tm_check.specs.Reads.{IsSized}
use Rattle.tm_flat_pool.specs.Cells.{AreDriverUnions, AreLevelUnions}
use Rattle.tm_flat_pool.specs.Predicates.{pool}
use Rattle.tm_game.specs.Game.{GameData}
use Rattle.tm_game_pool.specs.Separating.{predicates_at}
use Rattle.tm_refine.specs.Decided.{IsDecided, IsHonest, KeepsTo, KnowsDecision, numbers_of}
use Rattle.tm_refine.specs.declared.trace.Decision.{Decision}
use Rattle.tm_refine.specs.declared.trace.Trace.{Trace}
use Rattle.tm_sem.specs.Certificates.{DriverSets, Level}
use Rattle.tm_solve_exact.specs.Exact.{IsExactOf, exact_ids}
use Rattle.tm_syntax.specs.Design.{DesignTree}

-- the sets of a driver's certificate are unions of cells of the predicates that an honest trace tracks at its end
pub record TracesDriver (d : DesignTree) (trace : Trace) (sets : DriverSets) : Type 0 where
  pub honest : IsHonest d trace
  pub unions : AreDriverUnions d (predicates_at (pool d) (numbers_of trace)) sets

-- so are those of an environment's
pub record TracesLevels (d : DesignTree) (trace : Trace) (levels : List Level) : Type 0 where
  pub honest : IsHonest d trace
  pub unions : AreLevelUnions d (predicates_at (pool d) (numbers_of trace)) levels

-- what was decided of a design within a budget, over a game of the design from whose sets blocks can be made
pub record IsGameDecided (d : DesignTree) (budget : Option ℕ) (g : GameData) (decision : Decision) : Type 0 where
  pub decided : IsDecided d budget (exact_ids g) decision
  pub within : KeepsTo budget decision
  pub known : KnowsDecision (exact_ids g) decision
  pub exact : IsExactOf d g
  pub sized : IsSized g
