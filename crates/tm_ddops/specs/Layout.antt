-- What a manager's fields stand for, and what holds of them.
use Rattle.std.specs.Prelude.{◌≡◌}
use Rattle.tm_ddops.specs.declared.manager.Manager.TheInside.{Inside}
use Rattle.tm_ddops.specs.Manager.{Diagrams, IsManager, most_results}
use Rattle.tm_ddops.specs.Inner.Tables.{AreTrue}

-- the store's table, and the entries of the cache
abbrev pub diagrams_of : Inside → Diagrams
diagrams_of m = record { table = m.store; results = m.cache.entries }

-- the cache has room for as many results as a manager may remember, and each entry of the tables is true
pub record IsSound (m : Inside) : Type 0 where
  pub manager : IsManager (diagrams_of m)
  pub room : m.cache.cap ≡ most_results
  pub tables : AreTrue m.store m.tables
