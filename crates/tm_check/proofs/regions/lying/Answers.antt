use Rattle.std.proofs.Common.{refl, arith}
use Rattle.tm_check.proofs.Found.{found_set, found_tried, lying_found, own}
use Rattle.tm_check.proofs.Keeping.{told_kept}
use Rattle.tm_check.proofs.regions.lying.Goals as goal
use Rattle.tm_verdict.specs.Driver.{lies_within}
use Rattle.tm_game.proofs.Growing.{grows_none, grows_then}

pub without-requires-clause-set : goal.without-requires-clause-set
without-requires-clause-set c =
    let d = c.requires.told.0 in
    let is = c.requires.told.3 in
    (own d c.requires.told.1 c.requires.told.2 c.args.told.now c.args.game.now c.args.game.now is
    (grows_none c.args.game.now) c.args.goal c.requires.goal c.args.index c.ranked_at-rank.result
    c.ranked_at-rank.ensures).2.set.known

pub without-requires-clause-other : goal.without-requires-clause-other
without-requires-clause-other c = c.requires.told.3.diagrams.region.known

pub try_part-requires : goal.try_part-requires
try_part-requires c =
    let d = c.requires.told.0 in
    let bs = c.requires.told.1 in
    let cs = c.requires.told.2 in
    let is = c.requires.told.3 in
    found_set d bs cs c.args.told.now c.without.new.game
    (told_kept d c.args.game.now c.without.new.game c.without.ensures.grows bs cs c.args.told.now is)
    (lies_within c.args.goal c.args.index) c.in_ok-outside.outside
    (lying_found d bs cs c.args.told.now c.args.game.now c.without.new.game is c.without.ensures.grows c.args.goal
    c.requires.goal c.args.index c.ranked_at-rank.result c.ranked_at-rank.ensures c.in_ok-outside.outside
    c.in_ok-outside.ensures.rest)

pub returns-in_err-verdict-clause-grows : goal.returns-in_err-verdict-clause-grows
returns-in_err-verdict-clause-grows c =
    grows_then c.args.game.now c.without.new.game c.try_part.new.game c.without.ensures.grows c.try_part.ensures.grows

pub returns-clause-grows : goal.returns-clause-grows
returns-clause-grows c =
    grows_then c.args.game.now c.without.new.game c.try_part.new.game c.without.ensures.grows c.try_part.ensures.grows

pub returns-clause-tried : goal.returns-clause-tried
returns-clause-tried c = λ d bs cs is.
    let later = told_kept d c.args.game.now c.without.new.game c.without.ensures.grows bs cs c.args.told.now is in
    found_tried d bs cs c.args.told.now c.without.new.game later (lies_within c.args.goal c.args.index)
    c.in_ok-outside.outside
    (lying_found d bs cs c.args.told.now c.args.game.now c.without.new.game is c.without.ensures.grows c.args.goal
    c.requires.goal c.args.index c.ranked_at-rank.result c.ranked_at-rank.ensures c.in_ok-outside.outside
    c.in_ok-outside.ensures.rest) 0 c.args.goal c.in_ok-verdict.verdict tt tt refl refl
    (c.in_ok-verdict.ensures.first d later.of)

pub overflow_cast-goal : goal.overflow_cast-goal
overflow_cast-goal c =
    let is = c.requires.told.3 in omega (arith, c.requires.goal, is.diagrams.count, is.goals, is.few)
