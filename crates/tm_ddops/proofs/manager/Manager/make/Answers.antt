use Rattle.std.proofs.Common.{◌≡◌, ◌⊎◌, IfOk, refl, subst}
use Rattle.tm_dd.specs.declared.node.NodeId.{NodeId}
use Rattle.tm_dd.specs.NodeId.{complement}
use Rattle.tm_dd.specs.Table.{Knows}
use Rattle.tm_ddops.specs.Layout.{diagrams_of}
use Rattle.tm_ddops.specs.Manager.{IsManager}
use Rattle.tm_ddops.proofs.Sound.{manager_extended}
use Rattle.tm_ddops.proofs.TableLemmas.{AreTrue-Extends}
use Rattle.tm_ddops.proofs.manager.Manager.make.Goals as goal
use Rattle.tm_ddops.proofs.manager.Manager.make.Goals.{After-make}
use Rattle.tm_ddops.proofs.manager.Manager.make.Given.{Over}

sound : (g : Over) (c : After-make g) →
    IsManager (record { table = c.make.new.self; results = c.self.inside.cache.entries })
sound g c = manager_extended (diagrams_of c.self.inside) _ c.self.invariant.manager c.make.ensures.extends
    c.make.ensures.reduced refl

pub invariant_of-self : goal.invariant_of-self
invariant_of-self g c = record {
  manager = sound g c;
  room = c.self.invariant.room;
  tables = AreTrue-Extends _ _ c.make.ensures.extends c.self.inside.tables c.self.invariant.tables;
}

pub returns-clause-manager : goal.returns-clause-manager
returns-clause-manager g c = sound g c

pub returns-clause-added : goal.returns-clause-added
returns-clause-added g c =
    subst (λ m. IfOk c.make.result (λ r. (id : NodeId) → Knows c.make.new.self id →
    Knows m.table id ⊎ ((id ≡ r) ⊎ (id ≡ complement r)))) c.self.view_is c.make.ensures.added
