-- The game is that of a design, with its pool.
use Rattle.tm_abs.specs.Tracked.{HasPooled}
use Rattle.test_game.proofs.cells.comparison.compare_lists.Given as goal

abbrev pub invariant-loop-list : goal.invariant-loop-list
invariant-loop-list l = HasPooled l.game
