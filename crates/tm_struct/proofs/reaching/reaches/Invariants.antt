use Rattle.std.proofs.Common.{◌*◌}
use Rattle.tm_cir.specs.View.{block_trees}
use Rattle.tm_struct.specs.Inner.Reaching.{IsTable}
use Rattle.tm_struct.proofs.reaching.reaches.Given as goal

abbrev pub invariant-loop-at : goal.invariant-loop-at
invariant-loop-at l = IsTable (block_trees l.blocks) l.reaches.items (2 * l.at)
