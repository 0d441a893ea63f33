use Rattle.tm_strat.specs.Constants.{NoneBelow}
use Rattle.tm_strat_drafts.specs.Growth.{Carried}
use Rattle.tm_strat.proofs.choosing.constant_move.Given as goal

abbrev pub invariant-loop-shape : goal.invariant-loop-shape
invariant-loop-shape l = Carried l.fn.game l.game × NoneBelow l.fn.game l.pairs l.set l.shape
