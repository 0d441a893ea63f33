use Rattle.std.proofs.lemmas.Result.{IfOk-weaker}
use Rattle.tm_strat_drafts.proofs.Begun.{begins_at}
use Rattle.tm_strat_drafts.proofs.Making.{drafts_on, makes_none, makes_some}
use Rattle.tm_strat_drafts.proofs.Parting.{care_on, count_at}
use Rattle.tm_strat_drafts.proofs.building.begin.Goals as goal

pub divide-requires-clause-care : goal.divide-requires-clause-care
divide-requires-clause-care g c =
    let to = c.find.ensures.follows in care_on to.game to.extends c.requires.care

pub divide-requires-clause-tests : goal.divide-requires-clause-tests
divide-requires-clause-tests g c = count_at c.find.ensures.follows.game c.requires.tests

pub divide-requires-clause-drafts : goal.divide-requires-clause-drafts
divide-requires-clause-drafts g c =
    let to = c.find.ensures.follows in
    let s = g.M.Moves.setting c.args.moves.now in
    let stay = makes_none s.game (g.M.Moves.setting c.find.new.moves).ids (s.ids.means c.args.care) c.in_ok-found.found
    c.in-None.is c.in_ok-found.ensures.makes in
    drafts_on to.game to.extends stay c.requires.drafts

pub returns-in-Some-clause-begins : goal.returns-in-Some-clause-begins
returns-in-Some-clause-begins g c = makes_some _ c.in-Some.at c.in-Some.is c.in_ok-found.ensures.makes

pub returns-in-None-clause-begins : goal.returns-in-None-clause-begins
returns-in-None-clause-begins g c =
    let to = c.find.ensures.follows in
    let s = g.M.Moves.setting c.args.moves.now in
    let stay = makes_none s.game (g.M.Moves.setting c.find.new.moves).ids (s.ids.means c.args.care) c.in_ok-found.found
    c.in-None.is c.in_ok-found.ensures.makes in
    IfOk-weaker c.divide.result _ _ (λ r begins.
    begins_at (g.M.Moves.setting c.divide.new.moves).ids c.args.drafts.now.items c.find.new.drafts.items
    c.divide.new.drafts.items r to.game stay (to.extends.same c.args.care c.requires.care.known) begins)
    c.divide.ensures.begins
