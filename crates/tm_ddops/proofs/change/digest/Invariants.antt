use Rattle.std.proofs.Common.{◌≡◌, take}
use Rattle.tm_ddops.specs.Change.{digest}
use Rattle.tm_ddops.proofs.change.digest.Given as goal

abbrev pub invariant-loop-level : goal.invariant-loop-level
invariant-loop-level l = l.digest ≡ digest (take l.level-index l.list)
