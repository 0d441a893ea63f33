use Rattle.tm_strat_drafts.specs.Growth.{Follows}
use Rattle.tm_strat_drafts.proofs.building.known.Given as goal

abbrev pub invariant-loop-at : goal.invariant-loop-at
invariant-loop-at g l = Follows (g.M.Moves.setting l.fn.moves) (g.M.Moves.setting l.moves)
