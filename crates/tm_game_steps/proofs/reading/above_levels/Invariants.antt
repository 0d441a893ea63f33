use Rattle.std.proofs.Common.{◌<◌, ℕ, get_or}
use Rattle.tm_game_steps.proofs.reading.above_levels.Given as goal

abbrev pub invariant-loop-index : goal.invariant-loop-index
invariant-loop-index l = (i d : ℕ) → i < l.index → get_or l.levels i d < l.above
