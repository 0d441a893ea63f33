use Rattle.tm_scope.specs.Types.{ty_of}
use Rattle.tm_flat_exprs.specs.Valued.{FindsElements}
use Rattle.tm_flat_exprs.proofs.reader.TermReader.elements.Given as goal

abbrev pub invariant-loop-number : goal.invariant-loop-number
invariant-loop-number l =
    FindsElements l.self l.memory (ty_of l.ty) l.path l.index l.number l.fn.terms l.terms l.id
