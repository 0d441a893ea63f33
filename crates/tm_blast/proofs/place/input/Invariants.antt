use Rattle.tm_blast.proofs.Places.{IsInput}
use Rattle.tm_blast.proofs.place.input.Given as goal

abbrev pub invariant-loop-i : goal.invariant-loop-i
invariant-loop-i l = IsInput l.fn.dd.table l.dd.table l.levels l.bits.items l.i
