use Rattle.std.proofs.Common.{inl, inr, refl, sym, ap, subst, ◌∙◌, arith}
use Rattle.tm_dd.specs.Table.{Knows}
use Rattle.tm_ddops.specs.Layout.{diagrams_of}
use Rattle.tm_ddops.specs.Manager.{Grows, IsManager, IsResult, Remembers}
use Rattle.tm_ddops.proofs.Sound.{manager_extended, manager_remembers, result_of_choice}
use Rattle.tm_ddops.proofs.TableLemmas.{AreQuantifiers-Extends, AreSubstitutions-Extends, AreVisits-Extends}
use Rattle.tm_ddops.proofs.manager.Manager.walked.Goals as goal
use Rattle.tm_ddops.proofs.manager.Manager.walked.Goals.{In_ok-answer, In_ok-remember}
use Rattle.tm_ddops.proofs.manager.Manager.walked.Given.{Over}

pub remember-requires : goal.remember-requires
remember-requires g c = record
    { absent = λ other h. c.requires.absent other (subst (λ m. Remembers m c.args.operation other) c.self.view_is h) }

pub invariant_of-self : goal.invariant_of-self
invariant_of-self g c = record {
  manager = manager_extended (diagrams_of c.self.inside) _ c.self.invariant.manager c.walk.ensures.extends
      c.walk.ensures.reduced refl;
  room = c.self.invariant.room;
  tables = record {
    choices = c.walk.ensures.notes;
    visits = AreVisits-Extends c.self.inside.store c.walk.new.store c.walk.ensures.extends
        c.limit.new.self.changes.keys c.limit.new.self.walks.found
        (c.limit.ensures c.self.inside.store c.self.invariant.tables).visits;
    quantifiers = AreQuantifiers-Extends c.self.inside.store c.walk.new.store c.walk.ensures.extends
        c.limit.new.self.changes.keys c.limit.new.self.quantifiers.items
        (c.limit.ensures c.self.inside.store c.self.invariant.tables).quantifiers;
    substitutions = AreSubstitutions-Extends c.self.inside.store c.walk.new.store c.walk.ensures.extends
        c.limit.new.self.changes.keys c.limit.new.self.substitutions.items
        (c.limit.ensures c.self.inside.store c.self.invariant.tables).substitutions;
  };
}

pub returns-in_err-answer-clause-manager : goal.returns-in_err-answer-clause-manager
returns-in_err-answer-clause-manager g c =
    manager_extended (diagrams_of c.self.inside) _ c.self.invariant.manager c.walk.ensures.extends
    c.walk.ensures.reduced refl

pub invariant_of-self-in_err-remember : goal.invariant_of-self-in_err-remember
invariant_of-self-in_err-remember g c = record {
  manager = manager_extended (diagrams_of c.self.inside) _ c.self.invariant.manager c.walk.ensures.extends
      c.walk.ensures.reduced (ap (λ d. d.entries) c.in_err-remember.ensures.refused);
  room = c.in_err-remember.ensures.capacity ∙ c.self.invariant.room;
  tables = record {
    choices = c.walk.ensures.notes;
    visits = AreVisits-Extends c.self.inside.store c.walk.new.store c.walk.ensures.extends
        c.limit.new.self.changes.keys c.limit.new.self.walks.found
        (c.limit.ensures c.self.inside.store c.self.invariant.tables).visits;
    quantifiers = AreQuantifiers-Extends c.self.inside.store c.walk.new.store c.walk.ensures.extends
        c.limit.new.self.changes.keys c.limit.new.self.quantifiers.items
        (c.limit.ensures c.self.inside.store c.self.invariant.tables).quantifiers;
    substitutions = AreSubstitutions-Extends c.self.inside.store c.walk.new.store c.walk.ensures.extends
        c.limit.new.self.changes.keys c.limit.new.self.substitutions.items
        (c.limit.ensures c.self.inside.store c.self.invariant.tables).substitutions;
  };
}

pub returns-in_err-remember-clause-manager : goal.returns-in_err-remember-clause-manager
returns-in_err-remember-clause-manager g c =
    manager_extended (diagrams_of c.self.inside) _ c.self.invariant.manager c.walk.ensures.extends
    c.walk.ensures.reduced (ap (λ d. d.entries) c.in_err-remember.ensures.refused)

answer : (g : Over) (c : In_ok-answer g) → IsResult c.walk.new.store c.args.operation c.in_ok-answer.answer
answer g c =
    result_of_choice c.self.inside.store c.walk.new.store c.walk.ensures.extends c.args.operation c.args.choice
    c.in_ok-answer.answer
    (λ f h. subst (λ m. Knows m.table f) (sym c.self.view_is) (c.requires.operands f h))
    (c.requires.same c.walk.new.store) c.in_ok-answer.ensures.answer

sound : (g : Over) (c : In_ok-remember g) →
    IsManager (record { table = c.walk.new.store; results = c.remember.new.cache.entries })
sound g c =
    manager_remembers (diagrams_of c.self.inside) _ c.self.invariant.manager c.walk.ensures.extends
    c.walk.ensures.reduced c.args.operation c.in_ok-answer.answer
    (answer g (goal.at.returns-clause-manager g c).In_ok-answer) c.in_ok-remember.ensures.only
    c.in_ok-remember.ensures.once
    (omega (arith, c.in_ok-remember.ensures.few, c.in_ok-remember.ensures.capacity, c.self.invariant.room))

pub invariant_of-self-2 : goal.invariant_of-self-2
invariant_of-self-2 g c =
    record {
      manager = sound g c;
      room = c.in_ok-remember.ensures.capacity ∙ c.self.invariant.room;
      tables = record {
        choices = c.walk.ensures.notes;
        visits = AreVisits-Extends c.self.inside.store c.walk.new.store c.walk.ensures.extends
            c.limit.new.self.changes.keys c.limit.new.self.walks.found
            (c.limit.ensures c.self.inside.store c.self.invariant.tables).visits;
        quantifiers = AreQuantifiers-Extends c.self.inside.store c.walk.new.store c.walk.ensures.extends
            c.limit.new.self.changes.keys c.limit.new.self.quantifiers.items
            (c.limit.ensures c.self.inside.store c.self.invariant.tables).quantifiers;
        substitutions = AreSubstitutions-Extends c.self.inside.store c.walk.new.store c.walk.ensures.extends
            c.limit.new.self.changes.keys c.limit.new.self.substitutions.items
            (c.limit.ensures c.self.inside.store c.self.invariant.tables).substitutions;
      };
    }

pub returns-clause-manager : goal.returns-clause-manager
returns-clause-manager g c = sound g c

pub returns-clause-grows : goal.returns-clause-grows
returns-clause-grows g c =
    subst (λ m. Grows m (record { table = c.walk.new.store; results = c.remember.new.cache.entries })) c.self.view_is
    (record {
      extends = c.walk.ensures.extends;
      results = λ o id h. elim (c.in_ok-remember.ensures.kept (o, id) h) [
        | inl there ↦ inl there
        | inr full ↦ inr (full ∙ c.in_ok-remember.ensures.capacity ∙ c.self.invariant.room)
      ];
    })

pub returns-clause-answer : goal.returns-clause-answer
returns-clause-answer g c = answer g (goal.at.returns-clause-answer g c).In_ok-answer

pub returns-clause-remembered : goal.returns-clause-remembered
returns-clause-remembered g c = c.in_ok-remember.ensures.there

pub walk-requires-clause-notes : goal.walk-requires-clause-notes
walk-requires-clause-notes g c = (c.limit.ensures c.self.inside.store c.self.invariant.tables).choices
