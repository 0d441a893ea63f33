use Rattle.std.proofs.Common.{map}
use Rattle.tm_check.specs.Reads.{Reads}
use Rattle.tm_check.proofs.Placing.{AreRead}
use Rattle.tm_check.proofs.arguments.read_arguments.Given as goal
use Rattle.tm_cir.specs.View.{num_tree}
use Rattle.tm_game.specs.Game.{Grows}
use Rattle.tm_syntax.specs.Design.{DesignTree}

abbrev pub invariant-loop-index : goal.invariant-loop-index
invariant-loop-index l = record {
  grows : Grows l.fn.game l.game;
  read : (d : DesignTree) → Reads d l.fn.game l.reading → AreRead d l.fn.game.order l.game.diagrams.table l.reading.goal
      l.widths (map num_tree l.nums) l.index l.fit l.bits.items;
}
