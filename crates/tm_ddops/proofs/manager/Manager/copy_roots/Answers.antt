use Rattle.std.proofs.Common.{subst, sym, ◌∙◌}
use Rattle.tm_dd.specs.Table.{Knows}
use Rattle.tm_ddops.specs.Copied.{AllReached}
use Rattle.tm_ddops.specs.Manager.{Diagrams}
use Rattle.tm_ddops.proofs.Sound.{manager_empty}
use Rattle.tm_ddops.proofs.manager.Manager.copy_roots.Goals as goal

pub copies-requires-clause-known : goal.copies-requires-clause-known
copies-requires-clause-known c f there = subst (λ m. Knows m.table f) (sym c.self.view_is) (c.requires.known f there)

pub returns-clause-reached : goal.returns-clause-reached
returns-clause-reached c =
    subst (λ (m : Diagrams). AllReached m.table c.copy_from_slice.new.self) (sym c.replace.ensures.after)
    (subst (AllReached c.copies.new.to) (sym (c.copy_from_slice.ensures.after ∙ c.deref.ensures.value))
    c.in-Ok-copies.ensures.reached)

pub invariant_of-made : goal.invariant_of-made
invariant_of-made c = record {
  manager = manager_empty _ c.copies.ensures.reduced c.in-Ok-empty_cache.ensures.empty;
  room = c.in-Ok-empty_cache.ensures.room;
  tables = c.new.ensures c.copies.new.to;
}
