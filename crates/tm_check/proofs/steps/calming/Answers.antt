use Rattle.std.proofs.Common.{◌≡◌, true, refl}
use Rattle.tm_check.proofs.Found.{found_set, found_tried}
use Rattle.tm_check.proofs.Keeping.{told_kept}
use Rattle.tm_check.proofs.States.{set_is}
use Rattle.tm_check.proofs.StepParts.{calming_found}
use Rattle.tm_check.proofs.steps.calming.Goals as goal
use Rattle.tm_verdict.specs.Driver.{is_calm}
use Rattle.tm_game.proofs.Growing.{grows_then, known_kept}

pub calm-requires : goal.calm-requires
calm-requires c =
    set_is c.requires.told.0 c.args.game.now c.requires.told.3.of c.requires.told.3.sized (λ s.
    c.requires.told.2.region s ≡ true) c.args.told.now.region
    c.requires.told.3.diagrams.region

pub without-requires-clause-set : goal.without-requires-clause-set
without-requires-clause-set c =
    known_kept c.args.game.now c.calm.new.self c.calm.ensures.grows c.args.told.now.region
    c.requires.told.3.diagrams.region.known

pub without-requires-clause-other : goal.without-requires-clause-other
without-requires-clause-other c = (c.in_ok-calm.ensures.answer c.requires.told.0 c.requires.told.3.of).known

pub try_part-requires : goal.try_part-requires
try_part-requires c =
    let d = c.requires.told.0 in
    let bs = c.requires.told.1 in
    let cs = c.requires.told.2 in
    let is = c.requires.told.3 in
    let later = grows_then c.args.game.now c.calm.new.self c.without.new.game c.calm.ensures.grows
    c.without.ensures.grows in
    found_set d bs cs c.args.told.now c.without.new.game
    (told_kept d c.args.game.now c.without.new.game later bs cs c.args.told.now is) is_calm c.in_ok-stirring.stirring
    (calming_found d bs cs c.args.told.now c.args.game.now c.calm.new.self c.without.new.game is c.calm.ensures.grows
    c.without.ensures.grows c.in_ok-calm.calm c.in_ok-stirring.stirring (c.in_ok-calm.ensures.answer d is.of)
    c.in_ok-stirring.ensures.rest)

pub returns-in_err-stirring-clause-grows : goal.returns-in_err-stirring-clause-grows
returns-in_err-stirring-clause-grows c =
    grows_then c.args.game.now c.calm.new.self c.without.new.game c.calm.ensures.grows c.without.ensures.grows

pub returns-in_err-verdict-clause-grows : goal.returns-in_err-verdict-clause-grows
returns-in_err-verdict-clause-grows c =
    grows_then c.args.game.now c.without.new.game c.try_part.new.game
    (grows_then c.args.game.now c.calm.new.self c.without.new.game c.calm.ensures.grows c.without.ensures.grows)
    c.try_part.ensures.grows

pub returns-clause-grows : goal.returns-clause-grows
returns-clause-grows c =
    grows_then c.args.game.now c.without.new.game c.try_part.new.game
    (grows_then c.args.game.now c.calm.new.self c.without.new.game c.calm.ensures.grows c.without.ensures.grows)
    c.try_part.ensures.grows

pub returns-clause-tried : goal.returns-clause-tried
returns-clause-tried c = λ d bs cs is.
    let grown = grows_then c.args.game.now c.calm.new.self c.without.new.game c.calm.ensures.grows
    c.without.ensures.grows in
    let later = told_kept d c.args.game.now c.without.new.game grown bs cs c.args.told.now is in
    found_tried d bs cs c.args.told.now c.without.new.game later is_calm c.in_ok-stirring.stirring
    (calming_found d bs cs c.args.told.now c.args.game.now c.calm.new.self c.without.new.game is c.calm.ensures.grows
    c.without.ensures.grows c.in_ok-calm.calm c.in_ok-stirring.stirring (c.in_ok-calm.ensures.answer d is.of)
    c.in_ok-stirring.ensures.rest) 3 0 c.in_ok-verdict.verdict tt tt refl refl (c.in_ok-verdict.ensures.first d
    later.of)
