use Rattle.tm_blast.proofs.InputLevels.{AreLevelsBelow}
use Rattle.tm_blast.proofs.levels.are_levels.Given as goal

abbrev pub invariant-loop-i : goal.invariant-loop-i
invariant-loop-i l = AreLevelsBelow l.terms l.count l.levels l.i
