use Rattle.std.proofs.Common.{[], take}
use Rattle.tm_abs.specs.Inner.Narrowed.{IsSought}
use Rattle.tm_abs.specs.Tracked.{IsPooled, tracked_of}
use Rattle.tm_dd.specs.declared.node.NodeId.{NodeId}
use Rattle.tm_game.specs.Game.{GameData, Grows}
use Rattle.tm_syntax.specs.Design.{DesignTree}
use Rattle.tm_abs.proofs.cells.Cells.narrowed.Given as goal

abbrev pub invariant-loop-number : goal.invariant-loop-number
invariant-loop-number l = record {
  grows : Grows l.fn.game l.game;
  narrowed : (d : DesignTree) (first : GameData) (set : NodeId) → IsPooled d first → Grows first l.fn.game →
      IsSought d first l.fn.game.diagrams.table set [] l.fn.whole.cell l.fn.whole.sought →
      IsSought d first l.game.diagrams.table set (tracked_of d (take l.number-index l.self.tracked.items))
      l.found.cell l.found.sought;
}
