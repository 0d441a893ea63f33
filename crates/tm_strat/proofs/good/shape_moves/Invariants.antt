use Rattle.tm_solve_exact.specs.Exact.{IsExactOf}
use Rattle.tm_strat.specs.Zoned.{AreZonePairs}
use Rattle.tm_strat_drafts.specs.Growth.{Carried}
use Rattle.tm_strat.proofs.good.shape_moves.Given as goal
use Rattle.tm_syntax.specs.Design.{DesignTree}

abbrev pub invariant-loop-index : goal.invariant-loop-index
invariant-loop-index l = record {
  grows : Carried l.fn.game l.game;
  pairs : (d : DesignTree) → IsExactOf d l.fn.game →
      AreZonePairs d l.fn.game l.zones l.targets l.index l.game.diagrams.table l.shape l.good;
}
