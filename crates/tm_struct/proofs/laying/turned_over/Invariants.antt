use Rattle.std.proofs.Common.{length}
use Rattle.tm_struct.proofs.Turned.{IsPart}
use Rattle.tm_struct.proofs.laying.turned_over.Given as goal

abbrev pub invariant-loop-block : goal.invariant-loop-block
invariant-loop-block l = IsPart l.first l.fn.laid.items l.laid.items l.blocks.items

abbrev pub decreases-loop-block : goal.decreases-loop-block
decreases-loop-block l = length l.laid.items
