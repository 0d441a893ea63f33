-- The game has its pool, and the cells are those of it.
use Rattle.tm_abs.specs.Cells.{AreCells}
use Rattle.tm_abs.specs.Tracked.{HasPooled}
use Rattle.bench.proofs.cells.count.Given as goal

abbrev pub invariant-loop-seed : goal.invariant-loop-seed
invariant-loop-seed l = record {
  pool : HasPooled l.game;
  cells : AreCells l.game l.cells;
}
