use Rattle.tm_solve.specs.Inner.Safety.{AreSingle}
use Rattle.tm_solve.proofs.safety.single_chains.Given as goal

abbrev pub invariant-loop-made : goal.invariant-loop-made
invariant-loop-made l = AreSingle l.set l._made l.chains.items
