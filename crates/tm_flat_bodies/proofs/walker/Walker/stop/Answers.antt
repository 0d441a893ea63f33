use Rattle.tm_flat_bodies.specs.Tables.{known_by}
use Rattle.tm_flat_bodies.proofs.Leaving.{stop_leads, stop_within}
use Rattle.tm_flat_bodies.proofs.walker.Walker.stop.Goals as goal

pub stop-requires-clause-sound : goal.stop-requires-clause-sound
stop-requires-clause-sound c = c.requires.standing.sound

pub stop-requires-clause-within : goal.stop-requires-clause-within
stop-requires-clause-within c =
    stop_within (known_by c.args.self.now) c.args.stand.now c.args.at c.location-number.result
    c.location-number.ensures c.requires.stand.walkable c.requires.stand c.args.course.now c.args.flow
    c.requires.standing

pub stop-requires-clause-flows : goal.stop-requires-clause-flows
stop-requires-clause-flows c =
    (c.args.self.now.cells.now, c.requires.standing.ended.stops c.location-number.result, c.requires.standing.stands)

pub returns : goal.returns
returns c =
    stop_leads (known_by c.args.self.now) c.args.stand.now c.args.at c.location-number.result
    c.location-number.ensures c.args.course.now
    (record c.args.course.now { terms = c.stop.new.terms; ends = c.stop.new.self }) c.args.flow c.requires.standing
    c.in_ok-stop.ensures
