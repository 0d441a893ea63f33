use Rattle.tm_game_bits.proofs.LeastValues.{IsNarrowedBelow}
use Rattle.tm_game_bits.proofs.narrowing.narrowed.Given as goal

abbrev pub invariant-loop-level : goal.invariant-loop-level
invariant-loop-level l = IsNarrowedBelow l.fn.dd.table l.dd.table l.fn.f l.levels l.level-index l.narrow
