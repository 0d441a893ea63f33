use Rattle.tm_abs.proofs.Kept.{cells_kept}
use Rattle.tm_abs.proofs.ValidParts.{some_kept}
use Rattle.tm_game.proofs.Growing.{grows_then}
use Rattle.bench.proofs.cells.count.Goals as goal

pub part_of-requires-clause-pool : goal.part_of-requires-clause-pool
part_of-requires-clause-pool c =
    some_kept c.loop-seed.game c.drawn.new.game c.drawn.ensures.grows c.loop-seed.invariant.pool

pub part_of-requires-clause-cells : goal.part_of-requires-clause-cells
part_of-requires-clause-cells c =
    cells_kept c.loop-seed.game c.drawn.new.game c.drawn.ensures.grows c.args.cells.now c.loop-seed.invariant.cells

pub loop-seed-preserved : goal.loop-seed-preserved
loop-seed-preserved c =
    let grows = grows_then c.loop-seed.game c.drawn.new.game c.part_of.new.game c.drawn.ensures.grows
    c.part_of.ensures.grows in
    record {
      pool = some_kept c.loop-seed.game c.part_of.new.game grows c.loop-seed.invariant.pool;
      cells = cells_kept c.loop-seed.game c.part_of.new.game grows c.args.cells.now c.loop-seed.invariant.cells;
    }
