use Rattle.std.proofs.Common.{inl, inr, subst, sym, ◌∙◌, arith}
use Rattle.tm_dd.proofs.CallerLaws.{Extends-refl}
use Rattle.tm_ddops.specs.Layout.{diagrams_of}
use Rattle.tm_ddops.specs.Manager.{Grows, IsManager, IsResult, Remembers}
use Rattle.tm_ddops.proofs.Sound.{manager_remembers}
use Rattle.tm_ddops.proofs.manager.Manager.remembered.Goals as goal
use Rattle.tm_ddops.proofs.manager.Manager.remembered.Goals.{After-remember}

pub remember-requires : goal.remember-requires
remember-requires c = record
    { absent = λ other h. c.requires.absent other (subst (λ m. Remembers m c.args.operation other) c.self.view_is h) }

sound : (c : After-remember) →
    IsManager (record { table = c.self.inside.store; results = c.remember.new.cache.entries })
sound c =
    manager_remembers (diagrams_of c.self.inside) _ c.self.invariant.manager (Extends-refl c.self.inside.store)
    c.self.invariant.manager.reduced c.args.operation c.args.id
    (subst (λ m. IsResult m.table c.args.operation c.args.id) (sym c.self.view_is) c.requires.result)
    c.remember.ensures.only c.remember.ensures.once
    (omega (arith, c.remember.ensures.few, c.remember.ensures.capacity, c.self.invariant.room))

pub invariant_of-self : goal.invariant_of-self
invariant_of-self c = record {
  manager = sound c;
  room = c.remember.ensures.capacity ∙ c.self.invariant.room;
  tables = c.self.invariant.tables;
}

pub returns-clause-manager : goal.returns-clause-manager
returns-clause-manager c = sound c

pub returns-clause-grows : goal.returns-clause-grows
returns-clause-grows c =
    subst (λ m. Grows m (record { table = c.self.inside.store; results = c.remember.new.cache.entries })) c.self.view_is
    (record {
      extends = Extends-refl c.self.inside.store;
      results = λ o id h. elim (c.remember.ensures.kept (o, id) h) [
        | inl there ↦ inl there
        | inr full ↦ inr (full ∙ c.remember.ensures.capacity ∙ c.self.invariant.room)
      ];
    })
