use Rattle.tm_dd.specs.Reduced.{Extends}
use Rattle.tm_reorder.proofs.ClampedBits.{AreFirst}
use Rattle.tm_reorder.proofs.clamping.clamped_bits.Given as goal

abbrev pub invariant-loop-field : goal.invariant-loop-field
invariant-loop-field l = record {
  extends : Extends l.fn.dd.table l.dd.table;
  first : AreFirst l.fn.dd.table l.dd.table l.levels l.fields l.field-index l.bits.items;
}
