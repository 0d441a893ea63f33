use Rattle.std.proofs.lemmas.Result.{IfOk-weaker}
use Rattle.tm_solve.specs.Iterates.{driver_sets, levels_of}
use Rattle.tm_solve_exact.specs.Exact.{exact_game, exact_ids, exact_operator, set_of}
use Rattle.tm_solve_exact.proofs.exact.Exact.solve.Goals as goal

pub returns-clause-region : goal.returns-clause-region
returns-clause-region c = c.solve.ensures.region

pub returns-clause-ranks : goal.returns-clause-ranks
returns-clause-ranks c =
    IfOk-weaker c.solve.result _ _
    (λ it fit d can.
    c.ranked_sets_are_certified.ensures.conditions d (exact_operator c.args.self.now.game)
    (exact_game c.args.self.now.game) (driver_sets (exact_ids c.solve.new.pre.game) it)
    (c.exact_operators_are_those_of_their_designs.ensures d c.args.self.now.game can) fit) c.solve.ensures.ranks

pub returns-clause-driver : goal.returns-clause-driver
returns-clause-driver c =
    IfOk-weaker c.solve.result _ _
    (λ it fit d can.
    c.ranked_sets_are_certified.ensures.whole d (exact_operator c.args.self.now.game) (exact_game c.args.self.now.game)
    (driver_sets (exact_ids c.solve.new.pre.game) it)
    (c.exact_operators_are_those_of_their_designs.ensures d c.args.self.now.game can) fit) c.solve.ensures.ranks

pub returns-clause-levels : goal.returns-clause-levels
returns-clause-levels c =
    IfOk-weaker c.solve.result _ _
    (λ it fit d can.
    c.levels_are_certified.ensures.conditions d (exact_operator c.args.self.now.game)
    (exact_game c.args.self.now.game) (set_of c.solve.new.pre.game it.region)
    (levels_of (exact_ids c.solve.new.pre.game) it)
    (c.exact_operators_are_those_of_their_designs.ensures d c.args.self.now.game can) fit) c.solve.ensures.levels

pub returns-clause-environment : goal.returns-clause-environment
returns-clause-environment c =
    IfOk-weaker c.solve.result _ _
    (λ it fit d can.
    c.levels_are_certified.ensures.whole d (exact_operator c.args.self.now.game) (exact_game c.args.self.now.game)
    (set_of c.solve.new.pre.game it.region) (levels_of (exact_ids c.solve.new.pre.game) it)
    (c.exact_operators_are_those_of_their_designs.ensures d c.args.self.now.game can) fit) c.solve.ensures.levels

pub returns-clause-exact : goal.returns-clause-exact
returns-clause-exact c = c.solve.ensures.follows.extends.of
