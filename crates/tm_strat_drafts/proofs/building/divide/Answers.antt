use Rattle.std.proofs.Common.{refl}
use Rattle.tm_strat_drafts.proofs.Making.{drafts_on, makes_at, makes_of}
use Rattle.tm_strat_drafts.proofs.Parting.{care_on, split_found, split_missing, uniform_on}
use Rattle.tm_strat_drafts.proofs.building.divide.Goals as goal

pub leaf-requires-clause-care : goal.leaf-requires-clause-care
leaf-requires-clause-care g c =
    let to = c.find_split.ensures.follows in care_on to.game to.extends c.requires.care

pub leaf-requires-clause-uniform : goal.leaf-requires-clause-uniform
leaf-requires-clause-uniform g c =
    let to = c.find_split.ensures.follows in
    uniform_on to.game (to.extends.same c.args.care c.requires.care.known)
    (split_missing (g.M.Moves.setting c.find_split.new.moves).ids c.in_ok-found.found c.in-None.is
    c.in_ok-found.ensures.value)

pub leaf-requires-clause-drafts : goal.leaf-requires-clause-drafts
leaf-requires-clause-drafts g c =
    let to = c.find_split.ensures.follows in drafts_on to.game to.extends refl c.requires.drafts

pub returns-in-Some-clause-begins : goal.returns-in-Some-clause-begins
returns-in-Some-clause-begins g c =
    (refl, split_found c.in_ok-found.found c.in-Some.parts c.in-Some.is c.in_ok-found.ensures.value)

pub returns-in_ok-at-in-None-clause-begins : goal.returns-in_ok-at-in-None-clause-begins
returns-in_ok-at-in-None-clause-begins g c =
    let to = c.find_split.ensures.follows in
    makes_of (to.extends.same c.args.care c.requires.care.known)
    (makes_at to.game c.in_ok-at-in-None.ensures.makes)
