use Rattle.std.proofs.Common.{List, ◌++◌, sym, subst}
use Rattle.tm_base.specs.declared.place.Place.{Place}
use Rattle.tm_locations.specs.Locations.{table_of}
use Rattle.tm_flat_bodies.specs.Walks.{IsTrailOf}
use Rattle.tm_flat_bodies.proofs.TrailNumbers.{first_place, no_place}
use Rattle.tm_flat_bodies.proofs.trails.trail_behind.Goals as goal

pub returns-in-None : goal.returns-in-None
returns-in-None c = λ calls is.
    subst (λ (places : List Place). IsTrailOf (table_of c.args.locations.now) c.args.trail (places ++ calls))
    (sym (no_place c.args.path.now c.in-None.ensures.value)) is

pub returns-in-Some : goal.returns-in-Some
returns-in-Some c = λ calls is.
    subst (λ (places : List Place). IsTrailOf (table_of c.args.locations.now) c.trail_behind_place.result
    (places ++ calls)) (sym (first_place c.args.path.now c.in-Some.name.now c.in-Some.ensures.value))
    (c.trail_behind_place.ensures calls is)
