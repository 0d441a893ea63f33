use Rattle.std.proofs.Common.{take}
use Rattle.tm_cir.specs.View.{block_trees}
use Rattle.tm_struct.specs.View.{action_trees}
use Rattle.tm_struct.specs.Inner.Laying.{AreLaid}
use Rattle.tm_struct.proofs.laying.lay_functions.Given as goal

abbrev pub invariant-loop-function : goal.invariant-loop-function
invariant-loop-function l =
    AreLaid (block_trees l.laid.items) l.starts.items (action_trees (take l.function-index l.functions))
