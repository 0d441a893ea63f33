use Rattle.std.proofs.Common.{◌≡◌, take}
use Rattle.tm_reorder.specs.Inner.Keys.{environment_keys}
use Rattle.tm_reorder.proofs.keys.environment_keys.Given as goal

abbrev pub invariant-loop-level : goal.invariant-loop-level
invariant-loop-level l = l.keys.items ≡ environment_keys (take l.level-index l.levels)
