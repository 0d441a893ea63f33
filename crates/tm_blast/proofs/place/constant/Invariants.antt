use Rattle.tm_dd.specs.Table.{Table}
use Rattle.tm_blast.proofs.Places.{IsConstant}
use Rattle.tm_blast.proofs.place.constant.Given as goal

abbrev pub invariant-loop-bit : goal.invariant-loop-bit
invariant-loop-bit l = (s : Table) → IsConstant l.width l.number l.left l.bits.items l._bit s
