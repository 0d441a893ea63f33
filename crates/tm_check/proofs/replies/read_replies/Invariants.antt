use Rattle.tm_check.proofs.KeepingReplies.{AreFirst}
use Rattle.tm_check.proofs.replies.read_replies.Given as goal
use Rattle.tm_cir.specs.View.{trees_of}
use Rattle.tm_game.specs.Game.{Grows}
use Rattle.tm_syntax.specs.Design.View.{design_tree}

abbrev pub invariant-loop-block : goal.invariant-loop-block
invariant-loop-block l = record {
  grows : Grows l.fn.game l.game;
  first : AreFirst (design_tree l.design) l.game l.goal (trees_of l.blocks) l.block-index l.list.items l.shapes.items;
}
