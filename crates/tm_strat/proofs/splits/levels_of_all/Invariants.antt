use Rattle.tm_strat_drafts.specs.Growth.{Carried}
use Rattle.tm_strat.proofs.splits.levels_of_all.Given as goal

abbrev pub invariant-loop-share : goal.invariant-loop-share
invariant-loop-share l = Carried l.fn.game l.game
