use Rattle.tm_strat_drafts.specs.Growth.{Carried}
use Rattle.tm_strat.proofs.tables.all_care.Given as goal

abbrev pub invariant-loop-good : goal.invariant-loop-good
invariant-loop-good l = Carried l.fn.game l.game
