use Rattle.std.proofs.Common.{refl}
use Rattle.std.proofs.lemmas.Result.{IfOk-weaker}
use Rattle.tm_strat_drafts.proofs.Following.{extends_here}
use Rattle.tm_strat_drafts.proofs.Making.{drafts_on, found_some, makes_found, makes_or_not_at}
use Rattle.tm_strat_drafts.proofs.building.find.Goals as goal

pub known-requires-clause-drafts : goal.known-requires-clause-drafts
known-requires-clause-drafts g c = drafts_on refl (extends_here _) c.as_slice.ensures.value c.requires.drafts

pub likely-requires-clause-known : goal.likely-requires-clause-known
likely-requires-clause-known g c = c.known.ensures.follows.extends.known c.args.care c.requires.known

pub likely-requires-clause-drafts : goal.likely-requires-clause-drafts
likely-requires-clause-drafts g c =
    let to = c.known.ensures.follows in drafts_on to.game to.extends refl c.requires.drafts

pub returns-in-Some-clause-makes : goal.returns-in-Some-clause-makes
returns-in-Some-clause-makes g c =
    makes_found c.known.ensures.follows.extends c.requires.drafts
    (found_some _ c.in_ok-found.found c.in-Some.at c.as_slice.ensures.value c.in-Some.is c.in_ok-found.ensures.found)

pub returns-in-None-clause-makes : goal.returns-in-None-clause-makes
returns-in-None-clause-makes g c =
    let to = c.known.ensures.follows in
    IfOk-weaker c.likely.result _ _ (λ r makes.
    makes_or_not_at (g.M.Moves.setting c.likely.new.moves).ids c.args.drafts.now.items c.likely.new.drafts.items r
    to.game (to.extends.same c.args.care c.requires.known) makes) c.likely.ensures.makes
