use Rattle.tm_strat_drafts.specs.Growth.{Carried}
use Rattle.tm_strat.proofs.choosing.likely_candidate.Given as goal

abbrev pub invariant-loop-number : goal.invariant-loop-number
invariant-loop-number l = Carried l.fn.game l.game
