use Rattle.std.proofs.Common.{subst}
use Rattle.tm_ddops.specs.Manager.{IsManager}
use Rattle.tm_ddops.proofs.manager.Manager.store.Goals as goal

pub returns-clause-manager : goal.returns-clause-manager
returns-clause-manager c = subst IsManager c.self.view_is c.self.invariant.manager
