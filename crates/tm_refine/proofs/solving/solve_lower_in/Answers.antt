use Rattle.tm_refine.proofs.Starts.{above_there, union_there}
use Rattle.tm_refine.proofs.solving.solve_lower_in.Goals as goal

pub solve_lower_from-requires-clause-union : goal.solve_lower_from-requires-clause-union
solve_lower_from-requires-clause-union g c =
    union_there c.as_slice.result.now c.args.sided.now.tracked.items c.as_slice.ensures.value
    (g.A.Arena.tests c.args.sided.now.arena) (g.A.Arena.game c.args.sided.now.arena) (g.A.Arena.ids c.side.new.self)
    c.in_ok-start.start ((g.A.Arena.ids c.args.sided.now.arena).means c.args.region) c.in_ok-start.ensures.value
    (g.A.Arena.tests c.side.new.self) (g.A.Arena.game c.side.new.self) c.side.ensures.tests
    c.side.ensures.follows.game

pub solve_lower_from-requires-clause-above : goal.solve_lower_from-requires-clause-above
solve_lower_from-requires-clause-above g c =
    above_there c.as_slice.result.now c.args.sided.now.tracked.items c.as_slice.ensures.value
    (g.A.Arena.tests c.args.sided.now.arena) (g.A.Arena.game c.args.sided.now.arena) (g.A.Arena.ids c.side.new.self)
    c.in_ok-start.start ((g.A.Arena.ids c.args.sided.now.arena).means c.args.region) c.in_ok-start.ensures.value
    (g.A.Arena.tests c.side.new.self) (g.A.Arena.game c.side.new.self) c.side.ensures.tests
    c.side.ensures.follows.game (g.met.A.Arena.monotone c.args.sided.now.arena) c.requires.holds
