use Rattle.tm_check.proofs.Found.{own}
use Rattle.tm_check.proofs.StepParts.{rank_found}
use Rattle.tm_check.proofs.leaving.of_rank.Goals as goal
use Rattle.tm_game.proofs.Growing.{grows_none}

pub without-requires-clause-set : goal.without-requires-clause-set
without-requires-clause-set c =
    let has = c.requires.told in
    (own has.0 has.1 has.2 c.args.told.now c.args.game.now c.args.game.now has.3 (grows_none c.args.game.now)
    c.args.goal c.requires.goal c.args.index c.ranked_at-rank.result c.ranked_at-rank.ensures).2.set.known

pub without-requires-clause-other : goal.without-requires-clause-other
without-requires-clause-other c =
    let has = c.requires.told in
    (own has.0 has.1 has.2 c.args.told.now c.args.game.now c.args.game.now has.3 (grows_none c.args.game.now)
    c.args.goal c.requires.goal c.args.index c.ranked_at-rank.result c.ranked_at-rank.ensures).2.before.known

pub returns-clause-states : goal.returns-clause-states
returns-clause-states c = λ d bs cs is.
    rank_found d bs cs c.args.told.now c.args.goal c.args.game.now c.without.new.game is c.requires.goal
    c.without.ensures.grows c.args.index c.ranked_at-rank.result c.ranked_at-rank.ensures c.in_ok-own.own
    c.in_ok-own.ensures.rest
