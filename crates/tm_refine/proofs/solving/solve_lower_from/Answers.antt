use Rattle.std.proofs.lemmas.Result.{IfOk-weaker}
use Rattle.tm_flat_pool.specs.Predicates.{pool}
use Rattle.tm_game_pool.specs.Separating.{predicates_at}
use Rattle.tm_refine.proofs.RoundSides.{lower_of, if_three, cells_there, knows_first, same_tracked}
use Rattle.tm_refine.proofs.solving.solve_lower_from.Goals as goal

pub returns-clause-lower : goal.returns-clause-lower
returns-clause-lower g c = if_three c.solve_from.result _ _ _ _ (λ it region known ranks d of.
    let there = c.solve_from.ensures.follows.extends.of d of in
    let here = g.met.A.Arena.exact c.args.sided.now.arena d of in
    let left = g.met.A.Arena.exact c.solve_from.new.pre.arena d there in
    lower_of d here.0 (g.A.Arena.game c.args.sided.now.arena) (g.A.Arena.game c.solve_from.new.pre.arena) here.1 left.0
    left.1 (predicates_at (pool d) c.args.sided.now.tracked.items)
    (g.A.Arena.tests c.args.sided.now.arena c.args.sided.now.tracked.items)
    (g.A.Arena.tests c.solve_from.new.pre.arena c.solve_from.new.pre.tracked.items)
    (g.met.A.Arena.cells c.args.sided.now.arena d c.args.sided.now.tracked.items of)
    (cells_there d (pool d) c.solve_from.new.pre.tracked.items c.args.sided.now.tracked.items _
    (same_tracked _ _ c.solve_from.ensures.follows.extends.side)
    (g.met.A.Arena.cells c.solve_from.new.pre.arena d c.solve_from.new.pre.tracked.items there))
    c.solve_from.new.pre.upper c.solve_from.new.pre.tracked.items
    (g.A.Arena.ids c.solve_from.new.pre.arena) it known region ranks)
    c.solve_from.ensures.region c.solve_from.ensures.known c.solve_from.ensures.ranks

pub returns-clause-known : goal.returns-clause-known
returns-clause-known g c = IfOk-weaker c.solve_from.result _ _ (λ it known.
    knows_first c.solve_from.new.pre.upper c.solve_from.new.pre.tracked.items
    (g.A.Arena.tests c.solve_from.new.pre.arena c.solve_from.new.pre.tracked.items)
    (g.A.Arena.game c.solve_from.new.pre.arena)
    (g.A.Arena.ids c.solve_from.new.pre.arena) it known) c.solve_from.ensures.known
