use Rattle.std.proofs.Common.{subst}
use Rattle.tm_dd.specs.Reduced.{IsReduced}
use Rattle.tm_ddops.specs.Manager.{Diagrams}
use Rattle.tm_strat_cert.proofs.place.order_of.Goals as goal

pub returns-clause-reduced : goal.returns-clause-reduced
returns-clause-reduced c =
    subst (λ (m : Diagrams). IsReduced m.table) c.manager.ensures c.store-store.ensures.manager.reduced
