use Rattle.std.proofs.Common.{List}
use Rattle.tm_cir.specs.Tree.{BlockTree}
use Rattle.tm_dd.specs.declared.node.NodeId.{NodeId}
use Rattle.tm_game.specs.declared.moves.MoveShape.{MoveShape}
use Rattle.tm_strat.specs.Served.{AreServed, ServesFrom}
use Rattle.tm_strat_drafts.specs.Growth.{Carried}
use Rattle.tm_strat.proofs.reading.candidate_states.Given as goal
use Rattle.tm_syntax.specs.Design.{DesignTree}

abbrev pub invariant-loop-one : goal.invariant-loop-one
invariant-loop-one l = record {
  grows : Carried l.fn.game l.game;
  served : (d : DesignTree) (zones targets : List NodeId) (shapes : List MoveShape) (blocks : List BlockTree) →
      ServesFrom d l.fn.game zones targets shapes blocks l.pairs l.given →
      AreServed d l.game zones targets blocks l.states.items l.one-index;
}
