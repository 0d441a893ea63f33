use Rattle.std.proofs.Common.{take}
use Rattle.tm_cir.specs.View.{block_trees}
use Rattle.tm_struct.specs.View.{action_trees}
use Rattle.tm_struct.proofs.Filled.{AreFilled}
use Rattle.tm_struct.proofs.shaping.functions.Given as goal

abbrev pub invariant-loop-at : goal.invariant-loop-at
invariant-loop-at l = AreFilled (block_trees l.blocks) l.naming.order.items l.at-index (action_trees l.functions.items)
