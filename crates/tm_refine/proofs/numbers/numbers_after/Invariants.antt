use Rattle.std.proofs.Common.{◌≡◌, take}
use Rattle.std.specs.List.{range_with_len}
use Rattle.tm_refine.specs.Reasons.{tracked_by}
use Rattle.tm_refine.proofs.numbers.numbers_after.Given as goal

abbrev pub invariant-loop-addition : goal.invariant-loop-addition
invariant-loop-addition l =
    l.numbers.items ≡ tracked_by (range_with_len 0 l.first) (take l.addition-index l.added)
