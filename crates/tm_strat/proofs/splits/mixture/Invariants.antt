use Rattle.tm_strat_drafts.specs.Growth.{Carried}
use Rattle.tm_strat.proofs.splits.mixture.Given as goal

abbrev pub invariant-sharing : goal.invariant-sharing
invariant-sharing l = Carried l.fn.game l.game
