use Rattle.std.proofs.Common.{◌*◌}
use Rattle.tm_flat_exprs.specs.Inner.Shared.{HaveSame}
use Rattle.tm_flat_exprs.proofs.memory.versions.Versions.common_parts.Given as goal

abbrev pub invariant-loop-place : goal.invariant-loop-place
invariant-loop-place l = HaveSame (l.place * 64) 0 l.self l.other
