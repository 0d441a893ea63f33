use Rattle.std.proofs.Common.{◌≡◌, ◌+◌, length}
use Rattle.tm_dd.specs.Reduced.{Extends}
use Rattle.tm_dd.specs.Table.{Knows}
use Rattle.tm_reorder.proofs.ClampedBits.{AreSoFar}
use Rattle.tm_reorder.proofs.clamping.push_number.Given as goal

abbrev pub invariant-loop-passed : goal.invariant-loop-passed
invariant-loop-passed l = record {
  extends : Extends l.fn.dd.table l.dd.table;
  count : length l.bits.items ≡ length l.fn.bits.items + l.passed;
  tight : Knows l.dd.table l.tight;
  so_far : AreSoFar l.fn.dd.table l.dd.table l.levels l.field l.fn.bits.items l.bits.items l.passed l.tight;
}
