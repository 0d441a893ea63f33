use Rattle.std.proofs.Common.{◌≡◌, map, take}
use Rattle.tm_solve.specs.Begun.{plain_level}
use Rattle.tm_solve.proofs.copying.copied_levels.Given as goal

abbrev pub invariant-loop-level : goal.invariant-loop-level
invariant-loop-level l = map plain_level l.copies.items ≡ map plain_level (take l.level-index l.levels)
