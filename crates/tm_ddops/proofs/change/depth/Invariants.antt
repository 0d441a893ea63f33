use Rattle.std.proofs.Common.{take}
use Rattle.tm_ddops.specs.Changed.{IsDepth, change_of}
use Rattle.tm_ddops.proofs.change.depth.Given as goal

abbrev pub invariant-loop-level : goal.invariant-loop-level
invariant-loop-level l = IsDepth l.store (change_of (take l.level-index l.changes)) l.depth
