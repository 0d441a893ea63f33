use Rattle.std.proofs.Common.{◌≡◌, length}
use Rattle.tm_strat.specs.Goods.{AreGoodMoves}
use Rattle.tm_strat.specs.Served.{AreGivenFor, AreMadeFor, candidate_trees}
use Rattle.tm_strat_drafts.specs.Growth.{Carried}
use Rattle.tm_strat.proofs.making.goal_moves.Given as goal
use Rattle.tm_syntax.specs.Design.View.{design_tree}

abbrev pub invariant-loop-index : goal.invariant-loop-index
invariant-loop-index l = record {
  grows : Carried l.fn.game l.game;
  count : length l.goals.items ≡ l.index;
  given_are : AreGivenFor (design_tree l.design) l.game l.shapes
      (candidate_trees (design_tree l.design) l.fn.counts l.shapes l.candidates) l.given.items (length l.candidates);
  good : AreGoodMoves (design_tree l.design) l.game l.iterates l.shapes l.goods;
  made : AreMadeFor (design_tree l.design) l.game l.iterates l.shapes
      (candidate_trees (design_tree l.design) l.fn.counts l.shapes l.candidates) l.goals.items;
}
