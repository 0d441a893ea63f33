use Rattle.tm_solve_exact.proofs.Whole.{exact_any, reduced_of, whole_any}
use Rattle.tm_solve_exact.proofs.operator.ExactPre.whole.Goals as goal

pub returns-clause-value : goal.returns-clause-value
returns-clause-value c =
    whole_any c.args.self.now.game c.args.self.now.of c.valid.result c.valid.ensures.value

pub returns-clause-exact : goal.returns-clause-exact
returns-clause-exact c =
    exact_any c.args.self.now.game c.args.self.now.of
    (reduced_of c.args.self.now.game c.manager.result.now c.manager.ensures c.store-store.ensures.manager)
