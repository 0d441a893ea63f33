use Rattle.tm_check.proofs.Moving.{AreFirstMoves}
use Rattle.tm_check.proofs.good.good_moves.Given as goal
use Rattle.tm_game.specs.Game.{Grows, IsOf, in_set}
use Rattle.tm_syntax.specs.Design.{DesignTree}

abbrev pub invariant-loop-shape : goal.invariant-loop-shape
invariant-loop-shape l = record {
  grows : Grows l.fn.game l.game;
  moves : (d : DesignTree) → IsOf d l.fn.game → AreFirstMoves d l.fn.game.order (in_set d l.fn.game l.set) l.shapes
      l.game.diagrams.table l.shape-index l.moves.items;
}
