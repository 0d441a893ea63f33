use Rattle.std.proofs.Common.{◌<◌, length}
use Rattle.tm_scope.specs.Inner.Walks.{IsBefore}
use Rattle.tm_scope.proofs.graph.groups.group_at.Given as goal

abbrev pub invariant-loop-last : goal.invariant-loop-last
invariant-loop-last l = (l.last < length l.groups) × IsBefore l.groups l.last l.at

abbrev pub decreases-loop-last : goal.decreases-loop-last
decreases-loop-last l = l.last
