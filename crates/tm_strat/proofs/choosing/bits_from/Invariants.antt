use Rattle.tm_strat.specs.Constants.{AreFirstBits}
use Rattle.tm_strat.proofs.choosing.bits_from.Given as goal

abbrev pub invariant-loop-index : goal.invariant-loop-index
invariant-loop-index l = AreFirstBits l.values l.first l.index l.bits
