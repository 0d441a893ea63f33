use Rattle.tm_flat_exprs.specs.Inner.Merging.{MergesValues}
use Rattle.tm_flat_exprs.proofs.memory.choices.chosen_values.Given as goal

abbrev pub invariant-loop-index : goal.invariant-loop-index
invariant-loop-index l = MergesValues l.fn.terms l.terms l.guard l.first l.second l.index l.values.items
