use Rattle.std.proofs.Common.{subst}
use Rattle.tm_locations.specs.Locations.{table_of}
use Rattle.tm_flat_bodies.specs.Walks.{IsTrailOf}
use Rattle.tm_flat_bodies.proofs.TrailNumbers.{behind_found, none_behind}
use Rattle.tm_flat_bodies.proofs.trails.trail_behind_place.Goals as goal

pub returns-in-None : goal.returns-in-None
returns-in-None c = λ calls is.
    let l = table_of c.args.locations.now in
    none_behind l c.args.at calls (subst (λ o. IsTrailOf l o calls) c.in-None.is is)

pub returns-in-Some : goal.returns-in-Some
returns-in-Some c = λ calls is.
    let l = table_of c.args.locations.now in
    behind_found l c.args.at c.in-Some.number calls c.trail_behind.result c.trail_behind.ensures.found
    c.trail_behind.ensures.none (subst (λ o. IsTrailOf l o calls) c.in-Some.is is)
