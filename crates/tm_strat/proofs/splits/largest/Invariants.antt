use Rattle.tm_strat_drafts.specs.Growth.{Carried}
use Rattle.tm_strat.proofs.splits.largest.Given as goal

abbrev pub invariant-asking : goal.invariant-asking
invariant-asking l = Carried l.fn.game l.game
