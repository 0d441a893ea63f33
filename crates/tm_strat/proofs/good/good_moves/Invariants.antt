use Rattle.std.proofs.Common.{◌≡◌, length}
use Rattle.tm_solve_exact.specs.Exact.{IsExactOf}
use Rattle.tm_strat.specs.Goods.{AreGoodMoves}
use Rattle.tm_strat_drafts.specs.Growth.{Carried}
use Rattle.tm_strat.proofs.good.good_moves.Given as goal
use Rattle.tm_syntax.specs.Design.{DesignTree}

abbrev pub invariant-loop-goal : goal.invariant-loop-goal
invariant-loop-goal l = record {
  grows : Carried l.fn.game l.game;
  count : length l.all.items ≡ l.goal;
  good : (d : DesignTree) → IsExactOf d l.fn.game → AreGoodMoves d l.game l.iterates l.shapes l.all.items;
}
