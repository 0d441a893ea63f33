use Rattle.std.proofs.Common.{◌+◌, List, sym, subst, arith}
use Rattle.tm_check.specs.declared.leaving.Leaving.{Leaving}
use Rattle.tm_check.proofs.Keeping.{answers_kept, has_told_kept, told_kept}
use Rattle.tm_check.proofs.LeavingRanks.{AreFirstGoals, goals_all, goals_more, goals_none}
use Rattle.tm_check.proofs.leaving.leaving_sets.Goals as goal
use Rattle.tm_game.proofs.Growing.{grows_none, grows_then}

pub loop-goal-init : goal.loop-goal-init
loop-goal-init c = record {
  grows = grows_none c.args.game.now;
  leaving = λ d bs cs is are.
      subst (λ (xs : List Leaving). AreFirstGoals d bs cs c.args.game.now 0 xs) (sym c.new-all.ensures.items)
      (goals_none d bs cs c.args.game.now);
}

pub goal_leaving-requires-clause-told : goal.goal_leaving-requires-clause-told
goal_leaving-requires-clause-told c =
    has_told_kept c.args.game.now c.loop-goal.game c.loop-goal.invariant.grows c.args.told.now c.requires.told

pub goal_leaving-requires-clause-answers : goal.goal_leaving-requires-clause-answers
goal_leaving-requires-clause-answers c =
    let has = c.requires.answers in (
      has.0,
      has.1,
      has.2,
      told_kept has.0 c.args.game.now c.loop-goal.game c.loop-goal.invariant.grows has.1 has.2 c.args.told.now has.3,
      answers_kept has.0 c.args.game.now c.loop-goal.game c.loop-goal.invariant.grows has.1 c.args.answers.now has.4,
    )

pub returns-in_err-sets-clause-grows : goal.returns-in_err-sets-clause-grows
returns-in_err-sets-clause-grows c =
    grows_then c.args.game.now c.loop-goal.game c.goal_leaving.new.game c.loop-goal.invariant.grows
    c.goal_leaving.ensures.grows

pub returns-in_err-push-clause-grows : goal.returns-in_err-push-clause-grows
returns-in_err-push-clause-grows c =
    grows_then c.args.game.now c.loop-goal.game c.goal_leaving.new.game c.loop-goal.invariant.grows
    c.goal_leaving.ensures.grows

pub loop-goal-preserved : goal.loop-goal-preserved
loop-goal-preserved c = record {
  grows = grows_then c.args.game.now c.loop-goal.game c.goal_leaving.new.game c.loop-goal.invariant.grows
      c.goal_leaving.ensures.grows;
  leaving = λ d bs cs is are.
      subst (λ (xs : List Leaving). AreFirstGoals d bs cs c.goal_leaving.new.game (c.loop-goal.goal + 1) xs)
      (sym c.in_ok-push.ensures.items)
      (goals_more d bs cs c.loop-goal.game c.goal_leaving.new.game c.loop-goal.goal c.loop-goal.all.items
      c.in_ok-sets.sets c.goal_leaving.ensures.grows (c.loop-goal.invariant.leaving d bs cs is are)
      (c.in_ok-sets.ensures.leaving d bs cs
      (told_kept d c.args.game.now c.loop-goal.game c.loop-goal.invariant.grows bs cs c.args.told.now is)
      (answers_kept d c.args.game.now c.loop-goal.game c.loop-goal.invariant.grows bs c.args.answers.now are)));
}

pub returns-clause-leaving : goal.returns-clause-leaving
returns-clause-leaving c = λ d bs cs is are.
    goals_all d bs cs c.loop-goal.game c.loop-goal.goal c.loop-goal.all.items (omega (arith, is.diagrams.count))
    (c.loop-goal.invariant.leaving d bs cs is are)
