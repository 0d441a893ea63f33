use Rattle.std.proofs.Common.{refl}
use Rattle.tm_ddops.specs.Layout.{diagrams_of}
use Rattle.tm_ddops.specs.Manager.{IsManager}
use Rattle.tm_ddops.proofs.Sound.{manager_extended}
use Rattle.tm_ddops.proofs.manager.Manager.eliminate.Goals as goal
use Rattle.tm_ddops.proofs.manager.Manager.eliminate.Goals.{After-exists}

pub exists-requires-clause-tables : goal.exists-requires-clause-tables
exists-requires-clause-tables c = c.limit.ensures c.self.inside.store c.self.invariant.tables

sound : (c : After-exists) → IsManager (record { table = c.exists.new.store; results = c.self.inside.cache.entries })
sound c = manager_extended (diagrams_of c.self.inside) _ c.self.invariant.manager c.exists.ensures.extends
    c.exists.ensures.reduced refl

pub invariant_of-self : goal.invariant_of-self
invariant_of-self c = record {
  manager = sound (goal.at.invariant_of-self c).After-exists;
  room = c.self.invariant.room;
  tables = c.exists.ensures.tables;
}

pub returns-clause-manager : goal.returns-clause-manager
returns-clause-manager c = sound (goal.at.returns-clause-manager c).After-exists
