use Rattle.tm_solve_exact.specs.Exact.{IsExactOf}
use Rattle.tm_strat.specs.Zoned.{AreShapePairs, IsCareOf}
use Rattle.tm_strat_drafts.specs.Growth.{Carried}
use Rattle.tm_strat.proofs.good.moves_of.Given as goal
use Rattle.tm_syntax.specs.Design.{DesignTree}

abbrev pub invariant-loop-shape : goal.invariant-loop-shape
invariant-loop-shape l = record {
  grows : Carried l.fn.game l.game;
  are : (d : DesignTree) → IsExactOf d l.fn.game →
      AreShapePairs d l.fn.game l.zones l.targets l.game.diagrams.table l.shapes l.pairs.items l.shape-index;
  care_is : (d : DesignTree) → IsExactOf d l.fn.game →
      IsCareOf l.fn.game l.game.diagrams.table l.pairs.items l.care;
}
