use Rattle.std.proofs.Common.{◌≤◌, ◌+◌, ◌*◌, option_map, length}
use Rattle.tm_cir.specs.View.{truth_tree}
use Rattle.tm_cparse.specs.View.{tokens_of}
use Rattle.tm_cparse.specs.Inner.Parts.{part_trees}
use Rattle.tm_cparse.proofs.Loop.{SoFar, cost}
use Rattle.tm_cparse.proofs.expression.expression.Given as goal

abbrev pub invariant-loop-operand : goal.invariant-loop-operand
invariant-loop-operand l =
    SoFar l.sort (tokens_of l.spots) (part_trees l.parts) (option_map truth_tree l.operand) (tokens_of l.rest)
    × (length l.rest + cost (option_map truth_tree l.operand) ≤ length l.spots)

abbrev pub decreases-loop-operand : goal.decreases-loop-operand
decreases-loop-operand l = 2 * length l.rest + cost (option_map truth_tree l.operand)
