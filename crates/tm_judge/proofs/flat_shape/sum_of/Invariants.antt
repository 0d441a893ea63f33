-- The bits of the widths so far.
use Rattle.std.proofs.Common.{◌≡◌, sum, take}
use Rattle.tm_judge.specs.FlatShape.{capped}
use Rattle.tm_judge.proofs.flat_shape.sum_of.Given as goal

abbrev pub invariant-loop-width : goal.invariant-loop-width
invariant-loop-width l = l.bits ≡ capped (sum (take l.width-index l.widths))
