use Rattle.tm_check.proofs.Rows.{AreFirstAnswers}
use Rattle.tm_cir.specs.View.{trees_of}
use Rattle.tm_game.specs.Game.{Grows}
use Rattle.tm_syntax.specs.Design.View.{design_tree}
use Rattle.tm_check.proofs.check.all_replies.Given as goal

abbrev pub invariant-loop-goal : goal.invariant-loop-goal
invariant-loop-goal l = record {
  grows : Grows l.fn.game l.game;
  answers : AreFirstAnswers (design_tree l.design) (trees_of l.blocks) l.game l.goal l.answers.items;
}
