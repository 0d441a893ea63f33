use Rattle.std.proofs.Common.{◌≡◌, ◌+◌, length}
use Rattle.std.specs.Prelude.{⊤}
use Rattle.tm_dd.specs.Reduced.{Extends}
use Rattle.tm_reorder.specs.Inner.Clamped.{ArePushed}
use Rattle.tm_reorder.proofs.clamping.push_levels.Given as goal

abbrev pub invariant-loop-place : goal.invariant-loop-place
invariant-loop-place l = record {
  extends : Extends l.fn.dd.table l.dd.table;
  count : length l.bits.items ≡ length l.fn.bits.items + l._place;
  pushed : ArePushed l.fn.dd.table l.dd.table l.levels l._place (λ v. ⊤) l.fn.bits.items l.bits.items;
}
