use Rattle.std.proofs.Common.{[], ◌∷◌, length, subst, arith}
use Rattle.tm_check.specs.Leaving.{part_of}
use Rattle.tm_check.specs.Tried.{AreTried}
use Rattle.tm_check.proofs.Keeping.{has_told_kept, told_kept, leaving_kept}
use Rattle.tm_check.proofs.steps.descending.Goals as goal
use Rattle.tm_cir.specs.Answer.{Answers}
use Rattle.tm_verdict.specs.Driver.{driver_meaning}
use Rattle.tm_verdict.proofs.Trying.{tried_all, tried_more, tried_none, tried_stops}
use Rattle.tm_game.proofs.Growing.{grows_none, grows_then}

pub loop-goal-init : goal.loop-goal-init
loop-goal-init c = record {
  grows = grows_none c.args.game.now;
  tried = λ d bs cs is are passed.
      tried_none (driver_meaning d (Answers bs) cs) (λ goal. part_of c.args.descent goal ∷ []) (length cs.goals);
}

pub goal_descending-requires-clause-told : goal.goal_descending-requires-clause-told
goal_descending-requires-clause-told c =
    has_told_kept c.args.game.now c.loop-goal.game c.loop-goal.invariant.grows c.args.told.now c.requires.told

pub returns-in_err-verdict-clause-grows : goal.returns-in_err-verdict-clause-grows
returns-in_err-verdict-clause-grows c =
    grows_then c.args.game.now c.loop-goal.game c.goal_descending.new.game c.loop-goal.invariant.grows
    c.goal_descending.ensures.grows

pub returns-in_default-clause-grows : goal.returns-in_default-clause-grows
returns-in_default-clause-grows c =
    grows_then c.args.game.now c.loop-goal.game c.goal_descending.new.game c.loop-goal.invariant.grows
    c.goal_descending.ensures.grows

pub returns-in_default-clause-tried : goal.returns-in_default-clause-tried
returns-in_default-clause-tried c = λ d bs cs is are passed.
    tried_stops (driver_meaning d (Answers bs) cs) (λ goal. part_of c.args.descent goal ∷ []) (length cs.goals)
    c.loop-goal.goal c.in_ok-verdict.verdict (omega (arith, is.diagrams.count))
    c.in_default.not-Accepted (c.loop-goal.invariant.tried d bs cs is are passed)
    (c.in_ok-verdict.ensures.tried d bs cs (told_kept d c.args.game.now c.loop-goal.game c.loop-goal.invariant.grows
    bs cs c.args.told.now is)
    (leaving_kept d c.args.game.now c.loop-goal.game c.loop-goal.invariant.grows bs cs c.args.leaving.now are) passed)

pub loop-goal-preserved : goal.loop-goal-preserved
loop-goal-preserved c = record {
  grows = grows_then c.args.game.now c.loop-goal.game c.goal_descending.new.game c.loop-goal.invariant.grows
      c.goal_descending.ensures.grows;
  tried = λ d bs cs is are passed.
      tried_more (driver_meaning d (Answers bs) cs) (λ goal. part_of c.args.descent goal ∷ []) (length cs.goals)
      c.loop-goal.goal (omega (arith, is.diagrams.count)) (c.loop-goal.invariant.tried d bs cs is are passed)
      (subst (AreTried d (Answers bs) cs (part_of c.args.descent c.loop-goal.goal ∷ [])) c.in-Accepted.is
      (c.in_ok-verdict.ensures.tried d bs cs (told_kept d c.args.game.now c.loop-goal.game
      c.loop-goal.invariant.grows bs cs c.args.told.now is)
      (leaving_kept d c.args.game.now c.loop-goal.game c.loop-goal.invariant.grows bs cs c.args.leaving.now are)
      passed));
}

pub returns-clause-tried : goal.returns-clause-tried
returns-clause-tried c = λ d bs cs is are passed.
    tried_all (driver_meaning d (Answers bs) cs) (λ goal. part_of c.args.descent goal ∷ []) (length cs.goals)
    c.loop-goal.goal (omega (arith, is.diagrams.count)) (c.loop-goal.invariant.tried d bs cs is are passed)

pub goal_descending-requires-clause-leaving : goal.goal_descending-requires-clause-leaving
goal_descending-requires-clause-leaving c =
    let has = c.requires.leaving in (
      has.0,
      has.1,
      has.2,
      told_kept has.0 c.args.game.now c.loop-goal.game c.loop-goal.invariant.grows has.1 has.2 c.args.told.now has.3,
      leaving_kept has.0 c.args.game.now c.loop-goal.game c.loop-goal.invariant.grows has.1 has.2 c.args.leaving.now
          has.4,
    )
