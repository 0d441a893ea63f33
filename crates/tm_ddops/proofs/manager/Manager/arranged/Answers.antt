use Rattle.tm_ddops.proofs.Sound.{manager_empty}
use Rattle.tm_ddops.proofs.manager.Manager.arranged.Goals as goal

pub invariant_of-result : goal.invariant_of-result
invariant_of-result c = record {
  manager = manager_empty _ c.in-Ok.ensures.reduced c.in-Ok-empty_cache.ensures.empty;
  room =
      c.in-Ok-empty_cache.ensures.room;
  tables = c.in-Ok-with_room.ensures c.in-Ok.given;
}

pub returns-clause-manager : goal.returns-clause-manager
returns-clause-manager c = manager_empty _ c.in-Ok.ensures.reduced c.in-Ok-empty_cache.ensures.empty
