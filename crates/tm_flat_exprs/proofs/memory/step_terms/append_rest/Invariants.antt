use Rattle.tm_flat_exprs.proofs.Appending.{AppendsUntil}
use Rattle.tm_flat_exprs.proofs.memory.step_terms.append_rest.Given as goal

abbrev pub invariant-loop-index : goal.invariant-loop-index
invariant-loop-index l = AppendsUntil l.fn.guard l.fn.all l.other l.all l.common l.index
