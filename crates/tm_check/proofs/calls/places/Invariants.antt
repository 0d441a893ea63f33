use Rattle.std.proofs.Common.{◌≡◌, map}
use Rattle.std.specs.List.{range_with_len}
use Rattle.tm_check.specs.Arguments.{placed}
use Rattle.tm_check.proofs.calls.places.Given as goal

abbrev pub invariant-loop-index : goal.invariant-loop-index
invariant-loop-index l = l.parts.items ≡ map (placed l.first l.bits) (range_with_len 0 l.index)
