use Rattle.tm_solve.proofs.Following.{told_other, told_same}
use Rattle.tm_strat_drafts.proofs.Making.{within_made}
use Rattle.tm_strat_drafts.proofs.Parting.{region_care, region_none, region_within}
use Rattle.tm_strat_drafts.proofs.goals.root_of.Goals as goal

pub build-requires-clause-care : goal.build-requires-clause-care
build-requires-clause-care g c =
    region_care c.region-care.result c.nothing-nothing.result c.nothing-nothing.ensures.exact c.region-care.ensures
    c.nothing-nothing.ensures.value (told_other c.if-same.ensures)

pub returns-then-same-clause-makes : goal.returns-then-same-clause-makes
returns-then-same-clause-makes g c =
    within_made
    (region_none (g.M.Moves.setting c.args.moves.now).game c.region-care.result c.nothing-nothing.result _
    c.region-care.ensures c.nothing-nothing.ensures.value (told_same c.if-same.ensures)) c.in_ok-idle.ensures.makes

pub returns-clause-makes : goal.returns-clause-makes
returns-clause-makes g c =
    within_made (region_within (g.M.Moves.setting c.args.moves.now).game c.region-care.ensures)
    c.in_ok-at.ensures.makes
