use Rattle.tm_flat_exprs.specs.Inner.Shared.{HaveSame}
use Rattle.tm_flat_exprs.proofs.memory.versions.Versions.common.Given as goal

abbrev pub invariant-loop-index : goal.invariant-loop-index
invariant-loop-index l = HaveSame l.index 0 l.self l.other
