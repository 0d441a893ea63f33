use Rattle.tm_game_steps.proofs.Pairs.{ArePairs}
use Rattle.tm_game_steps.proofs.changing.push_pairs.Given as goal

abbrev pub invariant-loop-i : goal.invariant-loop-i
invariant-loop-i l = ArePairs l.levels l.bits l.fn.changes.items l.changes.items l.i
