use Rattle.std.proofs.Common.{◌≡◌, take}
use Rattle.tm_ddops.specs.Parts.{digest}
use Rattle.tm_ddops.proofs.operation.digest.Given as goal

abbrev pub invariant-loop-level : goal.invariant-loop-level
invariant-loop-level l = l.digest ≡ digest (take l.level-index l.parts)
