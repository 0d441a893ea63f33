use Rattle.std.proofs.Common.{refl, subst}
use Rattle.std.proofs.lemmas.Result.{IfOk-weaker}
use Rattle.tm_ddops.specs.Layout.{diagrams_of}
use Rattle.tm_ddops.specs.Manager.{IsManager}
use Rattle.tm_ddops.proofs.Sound.{manager_extended}
use Rattle.tm_ddops.proofs.TableLemmas.{AreQuantifiers-Extends, AreSubstitutions-Extends, AreVisits-Extends}
use Rattle.tm_ddops.proofs.manager.Manager.ite_once.Goals as goal
use Rattle.tm_ddops.proofs.manager.Manager.ite_once.Goals.{After-walk}

pub walk-requires-clause-notes : goal.walk-requires-clause-notes
walk-requires-clause-notes c = (c.limit.ensures c.self.inside.store c.self.invariant.tables).choices

sound : (c : After-walk) → IsManager (record { table = c.walk.new.store; results = c.self.inside.cache.entries })
sound c = manager_extended (diagrams_of c.self.inside) _ c.self.invariant.manager c.walk.ensures.extends
    c.walk.ensures.reduced refl

pub invariant_of-self : goal.invariant_of-self
invariant_of-self c = record {
  manager = sound (goal.at.invariant_of-self c).After-walk;
  room = c.self.invariant.room;
  tables = record {
    choices = c.walk.ensures.notes;
    visits = AreVisits-Extends c.self.inside.store c.walk.new.store c.walk.ensures.extends
        c.limit.new.self.changes.keys c.limit.new.self.walks.found
        (c.limit.ensures c.self.inside.store c.self.invariant.tables).visits;
    quantifiers = AreQuantifiers-Extends c.self.inside.store c.walk.new.store c.walk.ensures.extends
        c.limit.new.self.changes.keys c.limit.new.self.quantifiers.items
        (c.limit.ensures c.self.inside.store c.self.invariant.tables).quantifiers;
    substitutions = AreSubstitutions-Extends c.self.inside.store c.walk.new.store c.walk.ensures.extends
        c.limit.new.self.changes.keys c.limit.new.self.substitutions.items
        (c.limit.ensures c.self.inside.store c.self.invariant.tables).substitutions;
  };
}

pub returns-clause-manager : goal.returns-clause-manager
returns-clause-manager c = sound (goal.at.returns-clause-manager c).After-walk

pub returns-clause-answer : goal.returns-clause-answer
returns-clause-answer c =
    IfOk-weaker c.walk.result _ _ (λ id r. record { known = r.known; meaning = r.meaning }) c.walk.ensures.answer

pub returns-in-Some-clause-answer : goal.returns-in-Some-clause-answer
returns-in-Some-clause-answer c =
    let m = subst IsManager c.self.view_is c.self.invariant.manager in
    let r = c.in-Some.ensures.answer c.args.self.now.table m.reduced
    (record { test = c.requires.f; if_true = c.requires.g; if_false = c.requires.h }) in
    record { known = r.known; meaning = r.meaning }
