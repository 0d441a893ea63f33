use Rattle.std.proofs.Common.{arith}
use Rattle.tm_check.specs.Leaving.{allowed_ranks}
use Rattle.tm_check.proofs.Growth.{and_before}
use Rattle.tm_check.proofs.LeavingRanks.{leave_known, leaving_long}
use Rattle.tm_check.proofs.StepParts.{breaking_found}
use Rattle.tm_check.proofs.steps.breaking_at.Goals as goal
use Rattle.tm_game.proofs.Growing.{grows_then, known_kept}
use Rattle.tm_term.proofs.Growth.{element_at}

pub leaving_at-left-requires-clause-goal : goal.leaving_at-left-requires-clause-goal
leaving_at-left-requires-clause-goal c =
    let has = c.requires.leaving in omega (arith, c.requires.goal, has.3.diagrams.count, has.4.count)

pub leaving_at-left-requires-clause-index : goal.leaving_at-left-requires-clause-index
leaving_at-left-requires-clause-index c = λ l this.
    let has = c.requires.leaving in
    omega (
      arith,
      leaving_long has.0 has.1 has.2 c.args.game.now c.args.told.now has.3 c.args.goal c.requires.goal
          c.args.leaving.now has.4 l this,
      c.requires.index,
    )

pub and-requires-clause-g : goal.and-requires-clause-g
and-requires-clause-g c =
    let has = c.requires.leaving in
    let this = element_at c.args.leaving.now c.args.goal
    (omega (arith, c.requires.goal, has.3.diagrams.count, has.4.count)) in
    known_kept c.args.game.now c.asked_at.new.game c.asked_at.ensures.grows c.leaving_at-left.result
    (leave_known has.0 has.1 has.2 c.args.game.now c.args.told.now has.3 c.args.goal c.requires.goal
    c.args.leaving.now has.4 this.0 this.1 (allowed_ranks c.args.descent c.args.index) c.leaving_at-left.result
    (c.leaving_at-left.ensures this.0 this.1))

pub returns-in_err-breaking-clause-grows : goal.returns-in_err-breaking-clause-grows
returns-in_err-breaking-clause-grows c =
    grows_then c.args.game.now c.asked_at.new.game c.and.new.self c.asked_at.ensures.grows c.and.ensures.grows

pub returns-clause-grows : goal.returns-clause-grows
returns-clause-grows c =
    grows_then c.args.game.now c.asked_at.new.game c.and.new.self c.asked_at.ensures.grows c.and.ensures.grows

pub returns-clause-states : goal.returns-clause-states
returns-clause-states c = λ d bs cs is are awaiting_is.
    let this = element_at c.args.leaving.now c.args.goal
    (omega (arith, c.requires.goal, is.diagrams.count, are.count)) in
    let found = c.leaving_at-left.ensures this.0 this.1 in
    breaking_found d bs cs c.args.told.now c.args.goal c.args.descent c.args.game.now c.asked_at.new.game
    c.and.new.self is c.requires.goal c.args.leaving.now are this.0 this.1 c.args.index c.asked_at.ensures.grows
    c.and.ensures.grows c.in_ok-asked.asked c.leaving_at-left.result c.in_ok-breaking.breaking found
    (c.in_ok-asked.ensures.states d bs cs is awaiting_is)
    (and_before c.asked_at.new.game.diagrams.table c.and.new.self.diagrams.table c.and.ensures.grows.diagrams
    c.in_ok-asked.asked c.leaving_at-left.result c.in_ok-breaking.breaking c.in_ok-asked.ensures.known
    (known_kept c.args.game.now c.asked_at.new.game c.asked_at.ensures.grows c.leaving_at-left.result
    (leave_known d bs cs c.args.game.now c.args.told.now is c.args.goal c.requires.goal c.args.leaving.now are this.0
    this.1 (allowed_ranks c.args.descent c.args.index) c.leaving_at-left.result found))
    c.in_ok-breaking.ensures.answer)
