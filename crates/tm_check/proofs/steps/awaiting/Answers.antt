use Rattle.std.proofs.Common.{length, get_or, ap, arith}
use Rattle.tm_check.proofs.StepParts.{awaiting_found, goal_states}
use Rattle.tm_check.proofs.steps.awaiting.Goals as goal
use Rattle.tm_dd.specs.declared.node.TheConstants.{FALSE}

pub bounds-goals-goal : goal.bounds-goals-goal
bounds-goals-goal c =
    let is = c.requires.told.3 in
    omega (
      arith,
      c.requires.goal,
      is.diagrams.count,
      is.goals,
      c.goals.ensures.count c.requires.told.0 is.of,
      ap length c.goals.ensures.value,
    )

pub without-requires-clause-set : goal.without-requires-clause-set
without-requires-clause-set c = c.requires.told.3.diagrams.region.known

pub without-requires-clause-other : goal.without-requires-clause-other
without-requires-clause-other c =
    let is = c.requires.told.3 in
    (goal_states c.requires.told.0 c.args.game.now (c.goals.ensures.states c.requires.told.0 is.of) c.goals.result.now
    c.goals.ensures.value c.args.goal
    (omega (arith, c.requires.goal, is.diagrams.count, is.goals, c.goals.ensures.count c.requires.told.0 is.of))).known

pub returns-clause-states : goal.returns-clause-states
returns-clause-states c = λ d bs cs is.
    awaiting_found d bs cs c.args.told.now c.args.goal c.args.game.now c.without.new.game is c.without.ensures.grows
    (get_or c.goals.result.now c.args.goal FALSE) c.in_ok-awaiting.awaiting
    (goal_states d c.args.game.now (c.goals.ensures.states d is.of) c.goals.result.now c.goals.ensures.value c.args.goal
    (omega (arith, c.requires.goal, is.diagrams.count, is.goals, c.goals.ensures.count d is.of)))
    c.in_ok-awaiting.ensures.rest
