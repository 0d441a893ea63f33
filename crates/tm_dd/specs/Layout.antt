-- How a store keeps its table.
use Rattle.std.specs.Prelude.{◌≡◌, drop}
use Rattle.tm_dd.specs.declared.store.Store.TheInside.{Inside}
use Rattle.tm_dd.specs.Table.{Table, entries}
use Rattle.tm_dd.specs.Unique.{IsUniqueTable}

-- the nodes are the entries past the constant's
abbrev pub table_of : Inside → Table
table_of a = record { levels = a.levels; ranks = a.ranks.items; nodes = drop 1 a.entries.keys }

-- the set has the entries of a unique table
pub record IsStore (a : Inside) : Type 0 where
  pub layout : a.entries.keys ≡ entries (table_of a)
  pub unique : IsUniqueTable (table_of a)
