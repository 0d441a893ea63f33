use Rattle.std.proofs.Common.{◌≡◌, ◌+◌, ◌*◌, take}
use Rattle.std.specs.Prelude.{sum_by}
use Rattle.tm_limits.specs.Amount.{capped}
use Rattle.tm_limits.proofs.WeightSums.{row_sum, stmt_sum}
use Rattle.tm_limits.proofs.weights.+weights.Given as goal

abbrev pub invariant-row_weight-loop-stmt : goal.invariant-row_weight-loop-stmt
invariant-row_weight-loop-stmt l = l.total ≡ capped (sum_by (stmt_sum l.calls) (take l.stmt-index l.stmts))

abbrev pub invariant-blocks_weight-loop-block : goal.invariant-blocks_weight-loop-block
invariant-blocks_weight-loop-block l =
    l.total ≡ capped (sum_by (λ b. row_sum l.calls b.items) (take l.block-index l.blocks))

abbrev pub decreases-inner_weight : goal.decreases-inner_weight
decreases-inner_weight l = 4 * goal.size-inner_weight l

abbrev pub decreases-stmt_weight : goal.decreases-stmt_weight
decreases-stmt_weight l = 4 * goal.size-stmt_weight l + 1

abbrev pub decreases-row_weight : goal.decreases-row_weight
decreases-row_weight l = 4 * goal.size-row_weight l + 2

abbrev pub decreases-blocks_weight : goal.decreases-blocks_weight
decreases-blocks_weight l = 4 * goal.size-blocks_weight l + 3
