use Rattle.tm_flat_stmts.specs.Elements.{PutsSome}
use Rattle.tm_flat_stmts.proofs.elements.put_some.Given as goal

abbrev pub invariant-loop-number : goal.invariant-loop-number
invariant-loop-number l = PutsSome l.reader l.path l.index l.number l.id l.fn.terms l.terms l.fn.flow l.goes
