use Rattle.std.proofs.Common.{refl}
use Rattle.tm_check.proofs.Found.{beginning_found, found_set, found_tried}
use Rattle.tm_check.proofs.Keeping.{told_kept}
use Rattle.tm_check.proofs.regions.beginning.Goals as goal
use Rattle.tm_verdict.specs.Driver.{begins_within}
use Rattle.tm_game.proofs.Growing.{grows_then}

pub without-requires-clause-set : goal.without-requires-clause-set
without-requires-clause-set c = (c.initial-initial.ensures.states c.requires.told.0 c.requires.told.3.of).known

pub without-requires-clause-other : goal.without-requires-clause-other
without-requires-clause-other c = c.requires.told.3.diagrams.region.known

pub try_part-requires : goal.try_part-requires
try_part-requires c =
    let d = c.requires.told.0 in
    let bs = c.requires.told.1 in
    let cs = c.requires.told.2 in
    let is = c.requires.told.3 in
    found_set d bs cs c.args.told.now c.without.new.game
    (told_kept d c.args.game.now c.without.new.game c.without.ensures.grows bs cs c.args.told.now is) begins_within
    c.in_ok-outside.outside
    (beginning_found d bs cs c.args.told.now c.args.game.now c.without.new.game is c.without.ensures.grows
    c.initial-initial.result c.in_ok-outside.outside (c.initial-initial.ensures.states d is.of)
    c.in_ok-outside.ensures.rest)

pub returns-in_err-verdict-clause-grows : goal.returns-in_err-verdict-clause-grows
returns-in_err-verdict-clause-grows c =
    grows_then c.args.game.now c.without.new.game c.try_part.new.game c.without.ensures.grows c.try_part.ensures.grows

pub returns-clause-grows : goal.returns-clause-grows
returns-clause-grows c =
    grows_then c.args.game.now c.without.new.game c.try_part.new.game c.without.ensures.grows c.try_part.ensures.grows

pub returns-clause-tried : goal.returns-clause-tried
returns-clause-tried c = λ d bs cs is.
    let later = told_kept d c.args.game.now c.without.new.game c.without.ensures.grows bs cs c.args.told.now is in
    found_tried d bs cs c.args.told.now c.without.new.game later begins_within c.in_ok-outside.outside
    (beginning_found d bs cs c.args.told.now c.args.game.now c.without.new.game is c.without.ensures.grows
    c.initial-initial.result c.in_ok-outside.outside (c.initial-initial.ensures.states d is.of)
    c.in_ok-outside.ensures.rest) 1 0
    c.in_ok-verdict.verdict tt tt refl refl (c.in_ok-verdict.ensures.first d later.of)
