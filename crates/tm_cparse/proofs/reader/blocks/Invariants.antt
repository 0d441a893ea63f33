use Rattle.std.proofs.Common.{length}
use Rattle.tm_cparse.proofs.Popped.{labelled_trees, IsPart}
use Rattle.tm_cparse.proofs.reader.blocks.Given as goal

abbrev pub invariant-loop-labelled : goal.invariant-loop-labelled
invariant-loop-labelled l = IsPart (labelled_trees l.fn.written.items) l.written.items l.blocks.items

abbrev pub decreases-loop-labelled : goal.decreases-loop-labelled
decreases-loop-labelled l = length l.written.items
