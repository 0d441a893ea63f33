use Rattle.std.proofs.Common.{◌≤◌, length}
use Rattle.tm_cir.specs.View.{block_trees}
use Rattle.tm_struct.specs.Inner.Naming.{AreNamedFrom}
use Rattle.tm_struct.proofs.naming.named.Given as goal

abbrev pub invariant-loop-at : goal.invariant-loop-at
invariant-loop-at l = record {
  within : l.at ≤ length l.blocks;
  so_far : AreNamedFrom (block_trees l.blocks) l.reaches l.at l.naming.order.items l.naming.numbers.items;
}

abbrev pub decreases-loop-at : goal.decreases-loop-at
decreases-loop-at l = l.at
