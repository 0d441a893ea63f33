use Rattle.tm_flat_states.specs.Conditions.{AreInputTerms}
use Rattle.tm_flat_states.proofs.memory.input_terms.Given as goal

abbrev pub invariant-loop-index : goal.invariant-loop-index
invariant-loop-index l = AreInputTerms l.fn.terms l.terms l.index l.ids.items
