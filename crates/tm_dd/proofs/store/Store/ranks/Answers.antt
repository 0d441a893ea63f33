use Rattle.std.proofs.Common.{subst}
use Rattle.tm_dd.specs.Reduced.{IsReduced}
use Rattle.tm_dd.proofs.Nodes.{reduced}
use Rattle.tm_dd.proofs.store.Store.ranks.Goals as goal

pub returns-clause-reduced : goal.returns-clause-reduced
returns-clause-reduced c = subst IsReduced c.self.view_is (reduced _ c.self.invariant.unique)
