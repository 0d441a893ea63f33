use Rattle.std.proofs.Common.{◌≡◌, ℕ, List, length}
use Rattle.tm_check.specs.Replies.{AreReplies}
use Rattle.tm_check.proofs.Answering.{AreBehind}
use Rattle.tm_check.proofs.good.good_answers.Given as goal
use Rattle.tm_cir.specs.Fit.{FitBlocks}
use Rattle.tm_cir.specs.Tree.{BlockTree}
use Rattle.tm_game.specs.Game.{Grows, IsOf, in_set}
use Rattle.tm_syntax.specs.Design.{DesignTree}

abbrev pub invariant-loop-passed : goal.invariant-loop-passed
invariant-loop-passed l = record {
  grows : Grows l.initial.game l.game;
  long : length l.from_last.items ≡ l.passed;
  behind : (d : DesignTree) (goal : ℕ) (bs : List BlockTree) → IsOf d l.fn.game → FitBlocks d bs →
      AreReplies d l.fn.game goal bs l.replies → AreBehind d l.fn.game.order l.game.diagrams.table bs goal
      (in_set d l.fn.game l.fn.set) l.count l.from_last.items;
}
