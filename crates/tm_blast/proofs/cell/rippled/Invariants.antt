use Rattle.tm_blast.proofs.Rows.{IsRippled}
use Rattle.tm_blast.proofs.cell.rippled.Given as goal

abbrev pub invariant-loop-i : goal.invariant-loop-i
invariant-loop-i l = IsRippled l.cell l.fn.dd.table l.dd.table l.fn.carry l.carry l.a l.b l.bits.items l.i
