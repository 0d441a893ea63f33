use Rattle.std.proofs.Common.{◌≡◌, get_or, false}
use Rattle.tm_ddops.proofs.Supports.{passing}
use Rattle.tm_ddops.proofs.support.marked_levels.Given as goal

abbrev pub invariant-loop-level : goal.invariant-loop-level
invariant-loop-level l = l.levels.items ≡ passing (λ k. get_or l.marks k false) l.level
