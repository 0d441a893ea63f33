use Rattle.tm_solve_exact.proofs.Whole.{exact_any, reduced_of}
use Rattle.tm_strat.proofs.Chosen.{nothing_is}
use Rattle.tm_strat.proofs.choosing.ChoosingMoves.nothing.Goals as goal

pub returns-clause-value : goal.returns-clause-value
returns-clause-value c = nothing_is c.args.self.now.game

pub returns-clause-exact : goal.returns-clause-exact
returns-clause-exact c =
    exact_any c.args.self.now.game c.args.self.now.is.design
    (reduced_of c.args.self.now.game c.manager.result.now c.manager.ensures c.store-store.ensures.manager)
