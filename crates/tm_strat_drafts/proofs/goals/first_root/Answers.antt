use Rattle.tm_strat_drafts.proofs.Renewing.{none_earlier}
use Rattle.tm_strat_drafts.proofs.Rooting.{roots_one}
use Rattle.tm_strat_drafts.proofs.goals.first_root.Goals as goal

pub own_root-requires-clause-earlier : goal.own_root-requires-clause-earlier
own_root-requires-clause-earlier g c = none_earlier _ c.args.drafts.now.items c.requires.none

pub returns-clause-roots : goal.returns-clause-roots
returns-clause-roots g c =
    roots_one (g.M.Moves.setting c.args.moves.now).game (g.M.Moves.setting c.own_root.new.moves).ids
    c.args.drafts.now.items c.own_root.new.drafts.items c.in_ok-at.at c.in_ok-at.ensures.makes
