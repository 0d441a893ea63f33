use Rattle.tm_solve.specs.Sets.{count}
use Rattle.tm_strat_drafts.proofs.building.+build.Given as goal

abbrev pub decreases-build : goal.decreases-build
decreases-build g l =
    count (g.M.Moves.setting l.moves.now).game.states ((g.M.Moves.setting l.moves.now).ids.means l.care)
