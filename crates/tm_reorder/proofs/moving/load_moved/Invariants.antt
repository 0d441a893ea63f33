use Rattle.tm_dd.specs.Reduced.{Extends}
use Rattle.tm_reorder.specs.Inner.Moved.{AreFirstMoved, seen}
use Rattle.tm_reorder.proofs.moving.load_moved.Given as goal

abbrev pub invariant-loop-entry : goal.invariant-loop-entry
invariant-loop-entry l = record {
  extends : Extends l.fn.dd.table l.dd.table;
  first : AreFirstMoved l.dd.table (seen l.fn.dd.table l.order l.bits) l.nodes l.entry-index l.ids.items;
}
