use Rattle.tm_blast.proofs.Rows.{IsCompared}
use Rattle.tm_blast.proofs.compare.compared.Given as goal

abbrev pub invariant-loop-i : goal.invariant-loop-i
invariant-loop-i l = IsCompared l.op l.fn.dd.table l.dd.table l.fn.first l.found l.a l.b l.i
