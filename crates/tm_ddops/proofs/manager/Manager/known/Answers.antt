use Rattle.std.proofs.Common.{inl, sym, ap, subst, ◌∙◌, arith}
use Rattle.tm_dd.proofs.CallerLaws.{Extends-refl}
use Rattle.tm_ddops.specs.Layout.{diagrams_of}
use Rattle.tm_ddops.specs.Manager.{Diagrams, Grows, IsManager, Remembers}
use Rattle.tm_ddops.proofs.Sound.{manager_after, result_told}
use Rattle.tm_ddops.proofs.manager.Manager.known.Goals as goal
use Rattle.tm_ddops.proofs.manager.Manager.known.Goals.{After-recall}

sound : (c : After-recall) → IsManager (record { table = c.self.inside.store; results = c.recall.new.cache.entries })
sound c =
    manager_after (diagrams_of c.self.inside) _ c.self.invariant.manager (Extends-refl c.self.inside.store)
    c.self.invariant.manager.reduced
    (λ o id h. inl (c.recall.ensures.only (o, id) h)) c.recall.ensures.once
    (omega (arith, c.recall.ensures.few, c.recall.ensures.capacity, c.self.invariant.room))

pub invariant_of-self : goal.invariant_of-self
invariant_of-self c = record {
  manager = sound c;
  room = c.recall.ensures.capacity ∙ c.self.invariant.room;
  tables = c.self.invariant.tables;
}

pub returns-clause-found : goal.returns-clause-found
returns-clause-found c id h =
    c.recall.ensures.found id (subst (λ m. Remembers m c.args.operation.now id) (sym c.self.view_is) h)

pub returns-clause-answer : goal.returns-clause-answer
returns-clause-answer c =
    result_told c.self.inside.store c.recall.new.cache.entries c.args.operation.now c.recall.result (sound c).results
    c.recall.ensures.told

pub returns-clause-remembered : goal.returns-clause-remembered
returns-clause-remembered c = c.recall.ensures.told

pub returns-clause-missed : goal.returns-clause-missed
returns-clause-missed c h =
    ap (λ d. let m : Diagrams = record { table = c.self.inside.store; results = d.entries } in m)
    (c.recall.ensures.missed h) ∙ c.self.view_is

pub returns-clause-manager : goal.returns-clause-manager
returns-clause-manager c = sound c

pub returns-clause-grows : goal.returns-clause-grows
returns-clause-grows c =
    subst (λ m. Grows m (record { table = c.self.inside.store; results = c.recall.new.cache.entries })) c.self.view_is
    (record {
      extends = Extends-refl c.self.inside.store;
      results = λ o id h. inl (c.recall.ensures.kept (o, id) h);
    })
