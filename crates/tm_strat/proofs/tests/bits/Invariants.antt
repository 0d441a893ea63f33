use Rattle.std.proofs.Common.{◌≡◌, ◌<◌, ◌^◌, length, take}
use Rattle.std.specs.Prelude.{sum}
use Rattle.tm_strat.specs.Tested.{AreAllBits}
use Rattle.tm_strat.proofs.tests.bits.Given as goal

abbrev pub invariant-loop-index : goal.invariant-loop-index
invariant-loop-index l = record {
  bits : length l.widths < 2 ^ 32 → AreAllBits l.counts (take l.index l.widths) l.found.items;
  count : length l.found.items ≡ sum (take l.index l.widths);
}
