use Rattle.std.proofs.Common.{sym, ◌∙◌, subst, arith}
use Rattle.tm_check.proofs.Found.{adds_passes, adds_refused, found_nowhere, found_somewhere, own}
use Rattle.tm_check.proofs.States.{set_is}
use Rattle.tm_check.proofs.Keeping.{told_kept}
use Rattle.tm_check.proofs.regions.adding.Goals as goal
use Rattle.tm_dd.specs.Table.{Knows}
use Rattle.tm_ddops.specs.Manager.{Diagrams}
use Rattle.tm_game.proofs.Growing.{grows_none, grows_then}
use Rattle.tm_sem.specs.Step.{IsInitial}

pub without-requires-clause-set : goal.without-requires-clause-set
without-requires-clause-set c =
    (own c.requires.told.0 c.requires.told.1 c.requires.told.2 c.args.told.now c.args.game.now c.args.game.now
    c.requires.told.3 (grows_none c.args.game.now) c.args.goal c.requires.goal c.args.index c.ranked_at-rank.result
    c.ranked_at-rank.ensures).2.set.known

pub without-requires-clause-other : goal.without-requires-clause-other
without-requires-clause-other c =
    (own c.requires.told.0 c.requires.told.1 c.requires.told.2 c.args.told.now c.args.game.now c.args.game.now
    c.requires.told.3 (grows_none c.args.game.now) c.args.goal c.requires.goal c.args.index c.ranked_at-rank.result
    c.ranked_at-rank.ensures).2.before.known

pub least-requires : goal.least-requires
least-requires c =
    subst (λ (m : Diagrams). Knows m.table c.in_ok-added.added) (sym c.manager.ensures) c.in_ok-added.ensures.rest.known

pub try_part-requires : goal.try_part-requires
try_part-requires c =
    let later = told_kept c.requires.told.0 c.args.game.now c.without.new.game c.without.ensures.grows
    c.requires.told.1 c.requires.told.2 c.args.told.now c.requires.told.3 in
    set_is c.requires.told.0 c.without.new.game later.of later.sized (IsInitial c.requires.told.0)
    c.initial-initial.result
    (c.initial-initial.ensures.states c.requires.told.0 later.of)

pub overflow_cast-goal : goal.overflow_cast-goal
overflow_cast-goal c =
    let is = c.requires.told.3 in omega (arith, c.requires.goal, is.diagrams.count, is.goals, is.few)

pub returns-then-is_some-clause-tried : goal.returns-then-is_some-clause-tried
returns-then-is_some-clause-tried c = λ d bs cs is.
    let least = found_somewhere c.manager.result.now c.without.new.game.diagrams c.in_ok-added.added c.manager.ensures
    c.in_ok-found.found c.in_ok-found.ensures (sym c.is_some.ensures ∙ c.if-is_some.true) in
    adds_passes d bs cs c.args.told.now c.args.game.now c.without.new.game is c.without.ensures.grows c.args.goal
    c.requires.goal c.args.index c.ranked_at-rank.result c.ranked_at-rank.ensures c.in_ok-added.added
    c.in_ok-added.ensures.rest least.0 least.1

pub returns-in_err-verdict-clause-grows : goal.returns-in_err-verdict-clause-grows
returns-in_err-verdict-clause-grows c =
    grows_then c.args.game.now c.without.new.game c.try_part.new.game c.without.ensures.grows c.try_part.ensures.grows

pub returns-clause-grows : goal.returns-clause-grows
returns-clause-grows c =
    grows_then c.args.game.now c.without.new.game c.try_part.new.game c.without.ensures.grows c.try_part.ensures.grows

pub returns-clause-tried : goal.returns-clause-tried
returns-clause-tried c = λ d bs cs is.
    let later = told_kept d c.args.game.now c.without.new.game c.without.ensures.grows bs cs c.args.told.now is in
    let nowhere = found_nowhere c.manager.result.now c.in_ok-added.added c.in_ok-found.found c.in_ok-found.ensures
    (sym c.is_some.ensures ∙ c.if-is_some.false) in
    adds_refused d bs cs c.args.told.now c.args.game.now c.without.new.game is c.without.ensures.grows c.args.goal
    c.requires.goal c.args.index c.ranked_at-rank.result c.ranked_at-rank.ensures c.in_ok-added.added
    c.in_ok-added.ensures.rest nowhere c.initial-initial.result
    (c.initial-initial.ensures.states d later.of) c.in_ok-verdict.verdict (c.in_ok-verdict.ensures.first d later.of)
