use Rattle.std.proofs.Common.{◌+◌, ◌-◌}
use Rattle.tm_blast.specs.Marks.{AreWanted}
use Rattle.tm_blast.proofs.marks.wanted.Given as goal

abbrev pub invariant-loop-distance : goal.invariant-loop-distance
invariant-loop-distance l = AreWanted l.terms l.made l.id l.marks.items l.distance

abbrev pub decreases-loop-distance : goal.decreases-loop-distance
decreases-loop-distance l = l.id.0 + 1 - l.distance
