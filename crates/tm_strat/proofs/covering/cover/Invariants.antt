use Rattle.tm_strat_drafts.specs.Growth.{Carried}
use Rattle.tm_strat.proofs.covering.cover.Given as goal

abbrev pub invariant-loop-added : goal.invariant-loop-added
invariant-loop-added l = Carried l.fn.game l.game
