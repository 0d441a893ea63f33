use Rattle.tm_flat_bodies.proofs.Passed.{PutsSoFar}
use Rattle.tm_flat_bodies.proofs.arguments.put_all.Given as goal

abbrev pub invariant-loop-index : goal.invariant-loop-index
invariant-loop-index l = PutsSoFar l.at l.cells l.values l.index l.fn.flow l.goes
