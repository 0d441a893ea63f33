use Rattle.tm_flat_moves.specs.Begun.{AreInputTerms}
use Rattle.tm_flat_moves.proofs.begin.input_terms.Given as goal

abbrev pub invariant-loop-index : goal.invariant-loop-index
invariant-loop-index l = AreInputTerms l.fn.terms l.terms l.first l.index l.ids.items
