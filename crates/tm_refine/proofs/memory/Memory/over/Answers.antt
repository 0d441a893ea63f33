use Rattle.std.proofs.Common.{Some, length, refl, sym, ap}
use Rattle.tm_flat.specs.Flat.{FlatTerms}
use Rattle.tm_refine.proofs.Memories.{none_noted}
use Rattle.tm_refine.proofs.PoolParts.{tests_same}
use Rattle.tm_refine.proofs.memory.Memory.over.Goals as goal

pub returns-clause-parts : goal.returns-clause-parts
returns-clause-parts c =
    none_noted c.cells_of.new.game (record {
      cells = Some c.in_ok-cells.cells;
      upper = c.args.upper;
      parts = c.new.result;
    }) c.in_ok-cells.cells refl c.in_ok-cells.ensures.cells c.new.ensures.empty

pub returns-clause-over : goal.returns-clause-over
returns-clause-over c = (
  c.in_ok-cells.cells,
  refl,
  tests_same c.cells_of.new.game c.in_ok-cells.cells.tracked.items c.args.tracked.now (length c.args.game.now.flat.pool)
      (ap (λ (f : FlatTerms). length f.pool) (sym c.cells_of.ensures.kept.grows.flat)) c.in_ok-cells.ensures.tracked,
  refl,
)
