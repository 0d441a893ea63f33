use Rattle.std.proofs.Common.{length, get_or, sym, ap, subst, arith}
use Rattle.tm_check.specs.declared.steps.Descent.{Descent}
use Rattle.tm_check.specs.Leaving.{IsAsked}
use Rattle.tm_check.specs.Loaded.{row_at}
use Rattle.tm_check.proofs.Growth.{and_before}
use Rattle.tm_check.proofs.StepParts.{asked_always, asked_when_fair, fair_below, fair_states}
use Rattle.tm_check.proofs.steps.asked_at.Goals as goal
use Rattle.tm_dd.specs.declared.node.TheConstants.{FALSE}
use Rattle.tm_game.specs.Game.{IsStates}
use Rattle.tm_game.proofs.Growing.{grows_then, known_kept, of_kept}
use Rattle.tm_term.proofs.Growth.{element_at}

pub and-requires-clause-f : goal.and-requires-clause-f
and-requires-clause-f c =
    let has = c.requires.told in (c.in_ok-own.ensures.states has.0 has.1 has.2 has.3).known

pub and-requires-clause-g : goal.and-requires-clause-g
and-requires-clause-g c =
    known_kept c.args.game.now c.of_rank.new.game c.of_rank.ensures.grows c.args.awaiting c.requires.awaiting

pub returns-in_err-waiting-clause-grows : goal.returns-in_err-waiting-clause-grows
returns-in_err-waiting-clause-grows c =
    grows_then c.args.game.now c.of_rank.new.game c.and.new.self c.of_rank.ensures.grows c.and.ensures.grows

pub returns-in-NeverRises-clause-grows : goal.returns-in-NeverRises-clause-grows
returns-in-NeverRises-clause-grows c =
    grows_then c.args.game.now c.of_rank.new.game c.and.new.self c.of_rank.ensures.grows c.and.ensures.grows

pub returns-in-NeverRises-clause-states : goal.returns-in-NeverRises-clause-states
returns-in-NeverRises-clause-states c = λ d bs cs is awaiting_is.
    let rank = element_at (row_at c.args.told.now c.args.goal) c.args.index c.requires.index in
    let own_is = c.in_ok-own.ensures.states d bs cs is in
    subst (λ (descent : Descent).
    IsStates d c.and.new.self.order c.and.new.self.diagrams.table (IsAsked d cs descent c.args.goal c.args.index)
    c.in_ok-waiting.waiting) (sym c.in-NeverRises.is)
    (asked_always d bs cs c.args.told.now c.args.goal c.args.game.now is c.requires.goal c.args.index rank.0 rank.1
    c.of_rank.new.game c.and.new.self c.of_rank.ensures.grows c.and.ensures.grows c.in_ok-own.own c.args.awaiting
    c.in_ok-waiting.waiting own_is awaiting_is
    (and_before c.of_rank.new.game.diagrams.table c.and.new.self.diagrams.table c.and.ensures.grows.diagrams
    c.in_ok-own.own c.args.awaiting c.in_ok-waiting.waiting own_is.known
    (known_kept c.args.game.now c.of_rank.new.game c.of_rank.ensures.grows c.args.awaiting c.requires.awaiting)
    c.in_ok-waiting.ensures.answer))

pub bounds-fairs-rank : goal.bounds-fairs-rank
bounds-fairs-rank c =
    let has = c.requires.told in
    let grown = grows_then c.args.game.now c.of_rank.new.game c.and.new.self c.of_rank.ensures.grows
    c.and.ensures.grows in
    omega (
      arith,
      fair_below has.0 has.1 has.2 c.args.game.now c.args.told.now has.3 c.args.goal c.requires.goal c.args.index
          c.ranked_at-rank.result c.ranked_at-rank.ensures,
      c.fairs.ensures.count has.0 (of_kept c.args.game.now c.and.new.self grown has.0 has.3.of),
      ap length c.fairs.ensures.value,
    )

pub and-requires-in-FallsWhenFair-clause-g : goal.and-requires-in-FallsWhenFair-clause-g
and-requires-in-FallsWhenFair-clause-g c =
    let has = c.requires.told in
    let grown = grows_then c.args.game.now c.of_rank.new.game c.and.new.self c.of_rank.ensures.grows
    c.and.ensures.grows in
    let of = of_kept c.args.game.now c.and.new.self grown has.0 has.3.of in
    (fair_states has.0 c.and.new.self (c.fairs.ensures.states has.0 of) c.fairs.result.now c.fairs.ensures.value
    c.ranked_at-rank.result.fair
    (omega (
      arith,
      fair_below has.0 has.1 has.2 c.args.game.now c.args.told.now has.3 c.args.goal c.requires.goal c.args.index
          c.ranked_at-rank.result c.ranked_at-rank.ensures,
      c.fairs.ensures.count has.0 of,
    ))).known

pub returns-in_err-asked-in-FallsWhenFair-clause-grows : goal.returns-in_err-asked-in-FallsWhenFair-clause-grows
returns-in_err-asked-in-FallsWhenFair-clause-grows c =
    grows_then c.args.game.now c.and.new.self c.and-in-FallsWhenFair.new.self
    (grows_then c.args.game.now c.of_rank.new.game c.and.new.self c.of_rank.ensures.grows c.and.ensures.grows)
    c.and-in-FallsWhenFair.ensures.grows

pub returns-in_ok-asked-in-FallsWhenFair-clause-grows : goal.returns-in_ok-asked-in-FallsWhenFair-clause-grows
returns-in_ok-asked-in-FallsWhenFair-clause-grows c =
    grows_then c.args.game.now c.and.new.self c.and-in-FallsWhenFair.new.self
    (grows_then c.args.game.now c.of_rank.new.game c.and.new.self c.of_rank.ensures.grows c.and.ensures.grows)
    c.and-in-FallsWhenFair.ensures.grows

pub returns-in_ok-asked-in-FallsWhenFair-clause-states : goal.returns-in_ok-asked-in-FallsWhenFair-clause-states
returns-in_ok-asked-in-FallsWhenFair-clause-states c = λ d bs cs is awaiting_is.
    let own_is = c.in_ok-own.ensures.states d bs cs is in
    let grown = grows_then c.args.game.now c.of_rank.new.game c.and.new.self c.of_rank.ensures.grows
    c.and.ensures.grows in
    let of = of_kept c.args.game.now c.and.new.self grown d is.of in
    let fair = get_or c.fairs.result.now c.ranked_at-rank.result.fair FALSE in
    let fair_is = fair_states d c.and.new.self (c.fairs.ensures.states d of) c.fairs.result.now
    c.fairs.ensures.value c.ranked_at-rank.result.fair
    (omega (
      arith,
      fair_below d bs cs c.args.game.now c.args.told.now is c.args.goal c.requires.goal c.args.index
          c.ranked_at-rank.result c.ranked_at-rank.ensures,
      c.fairs.ensures.count d of,
    )) in
    subst (λ (descent : Descent).
    IsStates d c.and-in-FallsWhenFair.new.self.order c.and-in-FallsWhenFair.new.self.diagrams.table
    (IsAsked d cs descent c.args.goal c.args.index) c.in_ok-asked-in-FallsWhenFair.asked) (sym c.in-FallsWhenFair.is)
    (asked_when_fair d bs cs c.args.told.now c.args.goal c.args.game.now is c.requires.goal c.args.index
    c.ranked_at-rank.result c.ranked_at-rank.ensures c.of_rank.new.game c.and.new.self c.of_rank.ensures.grows
    c.and.ensures.grows c.in_ok-own.own c.args.awaiting c.in_ok-waiting.waiting own_is awaiting_is
    (and_before c.of_rank.new.game.diagrams.table c.and.new.self.diagrams.table c.and.ensures.grows.diagrams
    c.in_ok-own.own c.args.awaiting c.in_ok-waiting.waiting own_is.known
    (known_kept c.args.game.now c.of_rank.new.game c.of_rank.ensures.grows c.args.awaiting c.requires.awaiting)
    c.in_ok-waiting.ensures.answer)
    c.and-in-FallsWhenFair.new.self c.and-in-FallsWhenFair.ensures.grows fair c.in_ok-asked-in-FallsWhenFair.asked
    fair_is
    (and_before c.and.new.self.diagrams.table c.and-in-FallsWhenFair.new.self.diagrams.table
    c.and-in-FallsWhenFair.ensures.grows.diagrams c.in_ok-waiting.waiting fair c.in_ok-asked-in-FallsWhenFair.asked
    c.in_ok-waiting.ensures.answer.known fair_is.known c.in_ok-asked-in-FallsWhenFair.ensures.answer))
