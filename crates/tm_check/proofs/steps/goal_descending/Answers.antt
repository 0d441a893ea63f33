use Rattle.std.proofs.Common.{arith}
use Rattle.tm_check.specs.Leaving.{part_of}
use Rattle.tm_check.proofs.Found.{found_set, found_tried}
use Rattle.tm_check.proofs.Growth.{or_before}
use Rattle.tm_check.proofs.Keeping.{has_told_kept, leaving_kept, told_kept}
use Rattle.tm_check.proofs.StepParts.{all_breaking, breaking_more, breaking_none, goal_named, names_states, rests_on}
use Rattle.tm_check.proofs.steps.goal_descending.Goals as goal
use Rattle.tm_game.proofs.Growing.{grows_then, known_kept, states_kept}
use Rattle.tm_verdict.specs.Found.{Awaits}

pub loop-index-init : goal.loop-index-init
loop-index-init c = record {
  grows = c.awaiting.ensures.grows;
  known = omega arith;
  awaits = c.in_ok-awaiting.ensures.states;
  states = λ d bs cs is are.
      breaking_none d bs cs c.args.told.now c.args.goal c.args.descent c.awaiting.new.game;
}

pub breaking_at-requires-clause-told : goal.breaking_at-requires-clause-told
breaking_at-requires-clause-told c =
    has_told_kept c.args.game.now c.loop-index.game c.loop-index.invariant.grows c.args.told.now c.requires.told

pub breaking_at-requires-clause-leaving : goal.breaking_at-requires-clause-leaving
breaking_at-requires-clause-leaving c =
    let has = c.requires.leaving in (
      has.0,
      has.1,
      has.2,
      told_kept has.0 c.args.game.now c.loop-index.game c.loop-index.invariant.grows has.1 has.2 c.args.told.now has.3,
      leaving_kept has.0 c.args.game.now c.loop-index.game c.loop-index.invariant.grows has.1 has.2 c.args.leaving.now
          has.4,
    )

pub breaking_at-requires-clause-awaiting : goal.breaking_at-requires-clause-awaiting
breaking_at-requires-clause-awaiting c =
    let has = c.requires.told in (c.loop-index.invariant.awaits has.0 has.1 has.2 has.3).known

pub returns-in_err-breaking-clause-grows : goal.returns-in_err-breaking-clause-grows
returns-in_err-breaking-clause-grows c =
    grows_then c.args.game.now c.loop-index.game c.breaking_at.new.game c.loop-index.invariant.grows
    c.breaking_at.ensures.grows

pub or-requires-clause-f : goal.or-requires-clause-f
or-requires-clause-f c =
    known_kept c.loop-index.game c.breaking_at.new.game c.breaking_at.ensures.grows c.loop-index.failing
    c.loop-index.invariant.known

pub returns-in_err-failing-clause-grows : goal.returns-in_err-failing-clause-grows
returns-in_err-failing-clause-grows c =
    grows_then c.args.game.now c.breaking_at.new.game c.or.new.self
    (grows_then c.args.game.now c.loop-index.game c.breaking_at.new.game c.loop-index.invariant.grows
    c.breaking_at.ensures.grows) c.or.ensures.grows

pub loop-index-preserved : goal.loop-index-preserved
loop-index-preserved c =
    let turn = grows_then c.loop-index.game c.breaking_at.new.game c.or.new.self c.breaking_at.ensures.grows
    c.or.ensures.grows in
    record {
      grows = grows_then c.args.game.now c.loop-index.game c.or.new.self c.loop-index.invariant.grows turn;
      known = c.in_ok-failing.ensures.answer.known;
      awaits = λ d bs cs is.
          states_kept c.loop-index.game c.or.new.self turn d (Awaits d cs c.args.goal) c.in_ok-awaiting.awaiting
          (c.loop-index.invariant.awaits d bs cs is);
      states = λ d bs cs is are.
          breaking_more d bs cs c.args.told.now c.args.goal c.args.descent c.loop-index.game c.breaking_at.new.game
          c.or.new.self c.breaking_at.ensures.grows c.or.ensures.grows c.loop-index.index c.loop-index.failing
          c.in_ok-breaking.breaking c.in_ok-failing.failing (c.loop-index.invariant.states d bs cs is are)
          (c.in_ok-breaking.ensures.states d bs cs
          (told_kept d c.args.game.now c.loop-index.game c.loop-index.invariant.grows bs cs c.args.told.now is)
          (leaving_kept d c.args.game.now c.loop-index.game c.loop-index.invariant.grows bs cs c.args.leaving.now are)
          (c.loop-index.invariant.awaits d bs cs is))
          (or_before c.breaking_at.new.game.diagrams.table c.or.new.self.diagrams.table c.or.ensures.grows.diagrams
          c.loop-index.failing c.in_ok-breaking.breaking c.in_ok-failing.failing
          (known_kept c.loop-index.game c.breaking_at.new.game c.breaking_at.ensures.grows c.loop-index.failing
          c.loop-index.invariant.known) c.in_ok-breaking.ensures.known c.in_ok-failing.ensures.answer);
    }

pub overflow_cast-goal : goal.overflow_cast-goal
overflow_cast-goal c =
    let is = c.requires.told.3 in omega (arith, c.requires.goal, is.diagrams.count, is.goals, is.few)

pub try_part-requires : goal.try_part-requires
try_part-requires c =
    let has = c.requires.leaving in
    found_set has.0 has.1 has.2 c.args.told.now c.loop-index.game
    (told_kept has.0 c.args.game.now c.loop-index.game c.loop-index.invariant.grows has.1 has.2 c.args.told.now has.3)
    (part_of c.args.descent c.args.goal) c.loop-index.failing
    (all_breaking has.0 has.1 has.2 c.args.told.now c.args.goal c.args.game.now has.3 c.loop-index.index
    (omega (arith, c.rank_count-count.ensures)) c.loop-index.game c.loop-index.failing c.args.descent
    (c.loop-index.invariant.states has.0 has.1 has.2 has.3 has.4))

pub returns-in_err-verdict-clause-grows : goal.returns-in_err-verdict-clause-grows
returns-in_err-verdict-clause-grows c =
    grows_then c.args.game.now c.loop-index.game c.try_part.new.game c.loop-index.invariant.grows
    c.try_part.ensures.grows

pub returns-clause-grows : goal.returns-clause-grows
returns-clause-grows c =
    grows_then c.args.game.now c.loop-index.game c.try_part.new.game c.loop-index.invariant.grows
    c.try_part.ensures.grows

pub returns-clause-tried : goal.returns-clause-tried
returns-clause-tried c = λ d bs cs is are passed.
    let later = told_kept d c.args.game.now c.loop-index.game c.loop-index.invariant.grows bs cs c.args.told.now is in
    found_tried d bs cs c.args.told.now c.loop-index.game later (part_of c.args.descent c.args.goal)
    c.loop-index.failing
    (all_breaking d bs cs c.args.told.now c.args.goal c.args.game.now is c.loop-index.index
    (omega (arith, c.rank_count-count.ensures)) c.loop-index.game c.loop-index.failing c.args.descent
    (c.loop-index.invariant.states d bs cs is are)) c.condition.result c.args.goal c.in_ok-verdict.verdict
    (names_states d bs cs c.args.told.now c.args.goal c.args.descent)
    (rests_on d bs cs c.args.told.now c.args.goal c.args.descent passed
    (omega (arith, c.requires.goal, is.diagrams.count)))
    (c.condition.ensures c.args.goal) (goal_named d bs cs c.args.told.now c.args.goal c.args.descent)
    (c.in_ok-verdict.ensures.first d later.of)
