use Rattle.std.proofs.Common.{ℕ, Bool, List, length, ◌≡◌, ◌+◌}
use Rattle.tm_cert.specs.declared.cert.Entry.{Entry}
use Rattle.tm_dd.specs.Table.{Table}
use Rattle.tm_reorder.specs.Inner.Keys.{AreFound}
use Rattle.tm_reorder.proofs.Wanted.{AreFirstKeyed}
use Rattle.tm_reorder.proofs.moving.spread.Given as goal

abbrev pub invariant-loop-index : goal.invariant-loop-index
invariant-loop-index l = record {
  count : length l.ids.items ≡ l.count + 2;
  keyed : (s : Table) (see : (ℕ → Bool) → ℕ → Bool) (nodes : List Entry) → length nodes ≡ l.count →
      AreFound s see nodes l.keys l.values l.loaded → AreFirstKeyed s see nodes l.keys l.index l.ids.items;
}
