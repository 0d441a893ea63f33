use Rattle.std.proofs.Common.{length}
use Rattle.tm_abs.specs.Inner.Joining.{IsJoining}
use Rattle.tm_abs.proofs.joined.join.Given as goal

abbrev pub invariant-loop-at : goal.invariant-loop-at
invariant-loop-at l =
    IsJoining l.free l.reads l.fn.waiting.items l.joined.gone.marks.items l.joined.gone.levels.items
    l.joined.atoms.items l.waiting.items

abbrev pub decreases-loop-at : goal.decreases-loop-at
decreases-loop-at l = length l.waiting.items
