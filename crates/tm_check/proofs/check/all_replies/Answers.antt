use Rattle.std.proofs.Common.{◌+◌, List, sym, subst, arith}
use Rattle.tm_check.specs.declared.replies.Replies.{Replies}
use Rattle.tm_check.proofs.Growth.{sized_kept}
use Rattle.tm_check.proofs.Rows.{AreFirstAnswers, answers_all, answers_more, answers_none}
use Rattle.tm_check.proofs.check.all_replies.Goals as goal
use Rattle.tm_cir.specs.View.{trees_of}
use Rattle.tm_game.proofs.Growing.{grows_none, grows_then, of_kept}
use Rattle.tm_syntax.specs.Design.View.{design_tree}

pub loop-goal-init : goal.loop-goal-init
loop-goal-init c = record {
  grows = grows_none c.args.game.now;
  answers = subst (λ (xs : List Replies).
      AreFirstAnswers (design_tree c.args.design.now) (trees_of c.args.blocks.now) c.args.game.now 0 xs)
      (sym c.new-answers.ensures.items)
      (answers_none (design_tree c.args.design.now) (trees_of c.args.blocks.now) c.args.game.now);
}

pub read_replies-requires-clause-of : goal.read_replies-requires-clause-of
read_replies-requires-clause-of c =
    of_kept c.args.game.now c.loop-goal.game c.loop-goal.invariant.grows (design_tree c.args.design.now) c.requires.of

pub read_replies-requires-clause-sized : goal.read_replies-requires-clause-sized
read_replies-requires-clause-sized c =
    sized_kept c.args.game.now c.loop-goal.game c.loop-goal.invariant.grows c.requires.sized

pub returns-in_err-replies-clause-grows : goal.returns-in_err-replies-clause-grows
returns-in_err-replies-clause-grows c =
    grows_then c.args.game.now c.loop-goal.game c.read_replies.new.game c.loop-goal.invariant.grows
    c.read_replies.ensures.grows

pub returns-in_err-push-clause-grows : goal.returns-in_err-push-clause-grows
returns-in_err-push-clause-grows c =
    grows_then c.args.game.now c.loop-goal.game c.read_replies.new.game c.loop-goal.invariant.grows
    c.read_replies.ensures.grows

pub loop-goal-preserved : goal.loop-goal-preserved
loop-goal-preserved c = record {
  grows = grows_then c.args.game.now c.loop-goal.game c.read_replies.new.game c.loop-goal.invariant.grows
      c.read_replies.ensures.grows;
  answers = subst (λ (xs : List Replies). AreFirstAnswers (design_tree c.args.design.now) (trees_of c.args.blocks.now)
      c.read_replies.new.game (c.loop-goal.goal + 1) xs) (sym c.in_ok-push.ensures.items)
      (answers_more (design_tree c.args.design.now) (trees_of c.args.blocks.now) c.loop-goal.game
      c.read_replies.new.game c.loop-goal.goal c.loop-goal.answers.items c.in_ok-replies.replies
      c.read_replies.ensures.grows c.loop-goal.invariant.answers c.in_ok-replies.ensures.replies);
}

pub returns-clause-answers : goal.returns-clause-answers
returns-clause-answers c =
    answers_all (design_tree c.args.design.now) (trees_of c.args.blocks.now) c.loop-goal.game c.loop-goal.goal
    c.loop-goal.answers.items (omega (arith, c.requires.goals)) c.loop-goal.invariant.answers

pub overflow_cast-goal : goal.overflow_cast-goal
overflow_cast-goal c = omega (arith, c.requires.few, c.loop-goal-test.true)
