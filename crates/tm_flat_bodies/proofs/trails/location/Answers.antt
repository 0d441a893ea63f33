use Rattle.std.proofs.Common.{◌+◌, length, ap, ◌∙◌, subst}
use Rattle.tm_locations.specs.Locations.{table_of}
use Rattle.tm_flat_bodies.specs.Walks.{IsTrailOf}
use Rattle.tm_flat_bodies.proofs.TrailNumbers.{at_end}
use Rattle.tm_flat_bodies.proofs.trails.location.Goals as goal

pub returns-in-None : goal.returns-in-None
returns-in-None c = λ d p are calls is.
    let l = table_of c.args.locations.now in
    ap (λ xs. length xs + 1) c.rows.ensures
    ∙ at_end l d p are c.args.at calls (subst (λ o. IsTrailOf l o calls) c.in-None.is is)

pub returns-in-Some : goal.returns-in-Some
returns-in-Some c = λ d p are calls is.
    let l = table_of c.args.locations.now in
    c.number.ensures d p are calls (subst (λ o. IsTrailOf l o calls) c.in-Some.is is)
