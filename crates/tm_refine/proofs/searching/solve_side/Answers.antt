use Rattle.tm_flat_pool.specs.Predicates.{pool}
use Rattle.tm_game_pool.specs.Separating.{predicates_at}
use Rattle.tm_solve.specs.Iterates.{driver_sets, levels_of}
use Rattle.tm_refine.proofs.Carrying.{carried_copy, carried_stay, none_lower, none_upper}
use Rattle.tm_refine.proofs.RoundSides.{all_kept, out_is}
use Rattle.tm_refine.proofs.SearchSteps.{stay_of, stay_then, won_lower, won_upper}
use Rattle.tm_refine.proofs.searching.solve_side.Goals as goal

pub solve_upper-requires : goal.solve_upper-requires
solve_upper-requires g c =
    let carried = c.requires.carried in
    record {
      carried = (
        carried.0,
        carried.1,
        carried_copy carried.0 (predicates_at (pool carried.0) c.args.sided.now.tracked.items)
            (g.A.Arena.game c.args.sided.now.arena) (g.A.Arena.ids c.args.sided.now.arena) c.args.far.now
            c.in_ok-begun.begun c.in_ok-begun.ensures carried.2,
      );
    }

pub returns-then-branch-clause-found : goal.returns-then-branch-clause-found
returns-then-branch-clause-found g c = λ d of.
    won_upper d (predicates_at (pool d) c.args.sided.now.tracked.items) (g.A.Arena.ids c.solve_upper.new.sided.arena)
    (g.A.Arena.ids c.leaves_out.new.self) c.in_ok-high.high c.leaves_out.ensures.follows.extends
    c.in_ok-high.ensures.known c.args.sided.now.upper c.if-sided.true (c.in_ok-high.ensures.upper d of)
    (out_is d ((g.A.Arena.ids c.solve_upper.new.sided.arena).means c.in_ok-high.high.region) _ _ c.if-branch.true
    (c.in_ok-leaves_out.ensures.out d (c.solve_upper.ensures.designs d of)))

pub returns-then-branch-clause-known : goal.returns-then-branch-clause-known
returns-then-branch-clause-known g c =
    all_kept (g.A.Arena.ids c.solve_upper.new.sided.arena) (g.A.Arena.ids c.leaves_out.new.self) c.in_ok-high.high
    c.leaves_out.ensures.follows.extends c.in_ok-high.ensures.known

pub returns-then-branch-clause-carried : goal.returns-then-branch-clause-carried
returns-then-branch-clause-carried g c = λ d of others.
    carried_stay d others (g.A.Arena.game c.args.sided.now.arena) (g.A.Arena.ids c.args.sided.now.arena)
    (g.A.Arena.ids c.leaves_out.new.self) c.args.far.now
    (stay_then c.solve_upper.ensures.stay (stay_of c.leaves_out.ensures.follows))

pub returns-then-sided-clause-carried : goal.returns-then-sided-clause-carried
returns-then-sided-clause-carried g c = λ d of before.
    carried_stay d (predicates_at (pool d) c.args.sided.now.tracked.items) (g.A.Arena.game c.args.sided.now.arena)
    (g.A.Arena.ids c.solve_upper.new.sided.arena) (g.A.Arena.ids c.leaves_out.new.self) c.in_ok-high.high
    (stay_of c.leaves_out.ensures.follows) (c.in_ok-high.ensures.carried d of)

pub returns-then-branch-2-clause-carried : goal.returns-then-branch-2-clause-carried
returns-then-branch-2-clause-carried g c = λ d of.
    carried_stay d (predicates_at (pool d) c.args.sided.now.tracked.items) (g.A.Arena.game c.args.sided.now.arena)
    (g.A.Arena.ids c.args.sided.now.arena) (g.A.Arena.ids c.leaves_out-2.new.self) c.args.far.now
    (stay_then c.solve_lower_in.ensures.stay (stay_of c.leaves_out-2.ensures.follows))

pub returns-clause-found : goal.returns-clause-found
returns-clause-found g c = λ d of.
    won_lower d (predicates_at (pool d) c.args.sided.now.tracked.items) (g.A.Arena.ids c.solve_lower_in.new.sided.arena)
    (g.A.Arena.ids c.leaves_out-2.new.self) c.in_ok-low.low c.leaves_out-2.ensures.follows.extends
    c.in_ok-low.ensures.known c.args.sided.now.upper c.if-sided.false (c.in_ok-low.ensures.lower d of)
    (out_is d ((g.A.Arena.ids c.solve_lower_in.new.sided.arena).means c.in_ok-low.low.region) _ _ c.if-branch-2.false
    (c.in_ok-leaves_out-2.ensures.out d (c.solve_lower_in.ensures.designs d of)))

pub returns-clause-known : goal.returns-clause-known
returns-clause-known g c =
    all_kept (g.A.Arena.ids c.solve_lower_in.new.sided.arena) (g.A.Arena.ids c.leaves_out-2.new.self) c.in_ok-low.low
    c.leaves_out-2.ensures.follows.extends c.in_ok-low.ensures.known

pub returns-clause-carried : goal.returns-clause-carried
returns-clause-carried g c = λ d of others.
    carried_stay d others (g.A.Arena.game c.args.sided.now.arena) (g.A.Arena.ids c.args.sided.now.arena)
    (g.A.Arena.ids c.leaves_out-2.new.self) c.args.far.now
    (stay_then c.solve_lower_in.ensures.stay (stay_of c.leaves_out-2.ensures.follows))

pub returns-in_err-leaves_out-clause-stay : goal.returns-in_err-leaves_out-clause-stay
returns-in_err-leaves_out-clause-stay g c =
    stay_then c.solve_upper.ensures.stay (stay_of c.leaves_out.ensures.follows)

pub returns-then-branch-clause-stay : goal.returns-then-branch-clause-stay
returns-then-branch-clause-stay g c = stay_then c.solve_upper.ensures.stay (stay_of c.leaves_out.ensures.follows)

pub returns-then-sided-clause-found : goal.returns-then-sided-clause-found
returns-then-sided-clause-found g c = λ d of.
    none_upper d (predicates_at (pool d) c.args.sided.now.tracked.items)
    ((g.A.Arena.ids c.solve_upper.new.sided.arena).means c.in_ok-high.high.region)
    (levels_of (g.A.Arena.ids c.solve_upper.new.sided.arena) c.in_ok-high.high) c.args.sided.now.upper c.if-sided.true
    (c.in_ok-high.ensures.upper d of)
    (out_is d ((g.A.Arena.ids c.solve_upper.new.sided.arena).means c.in_ok-high.high.region) _ _ c.if-branch.false
    (c.in_ok-leaves_out.ensures.out d (c.solve_upper.ensures.designs d of)))

pub returns-then-sided-clause-stay : goal.returns-then-sided-clause-stay
returns-then-sided-clause-stay g c = stay_then c.solve_upper.ensures.stay (stay_of c.leaves_out.ensures.follows)

pub returns-in_err-leaves_out-2-clause-stay : goal.returns-in_err-leaves_out-2-clause-stay
returns-in_err-leaves_out-2-clause-stay g c =
    stay_then c.solve_lower_in.ensures.stay (stay_of c.leaves_out-2.ensures.follows)

pub returns-then-branch-2-clause-found : goal.returns-then-branch-2-clause-found
returns-then-branch-2-clause-found g c = λ d of.
    none_lower d (predicates_at (pool d) c.args.sided.now.tracked.items)
    (driver_sets (g.A.Arena.ids c.solve_lower_in.new.sided.arena) c.in_ok-low.low) c.args.sided.now.upper
    c.if-sided.false (c.in_ok-low.ensures.lower d of)
    (out_is d ((g.A.Arena.ids c.solve_lower_in.new.sided.arena).means c.in_ok-low.low.region) _ _ c.if-branch-2.true
    (c.in_ok-leaves_out-2.ensures.out d (c.solve_lower_in.ensures.designs d of)))

pub returns-then-branch-2-clause-stay : goal.returns-then-branch-2-clause-stay
returns-then-branch-2-clause-stay g c =
    stay_then c.solve_lower_in.ensures.stay (stay_of c.leaves_out-2.ensures.follows)

pub returns-clause-stay : goal.returns-clause-stay
returns-clause-stay g c = stay_then c.solve_lower_in.ensures.stay (stay_of c.leaves_out-2.ensures.follows)
