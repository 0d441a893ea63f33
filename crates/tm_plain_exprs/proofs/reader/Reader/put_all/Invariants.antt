use Rattle.tm_plain_exprs.proofs.Putting.{PutSoFar}
use Rattle.tm_plain_exprs.proofs.reader.Reader.put_all.Given as goal

abbrev pub invariant-loop-index : goal.invariant-loop-index
invariant-loop-index l = PutSoFar l.self l.cells l.values l.index l.initial.store l.store
