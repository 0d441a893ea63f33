use Rattle.tm_strat_drafts.specs.Growth.{Carried}
use Rattle.tm_strat.proofs.covering.best_of_shape.Given as goal

abbrev pub invariant-loop-parameter : goal.invariant-loop-parameter
invariant-loop-parameter l = Carried l.fn.game l.game
