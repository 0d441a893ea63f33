use Rattle.std.proofs.Common.{◌≡◌, ◌+◌, ◌*◌, drop}
use Rattle.tm_syntax.specs.Tree.{row_of}
use Rattle.tm_syntax.specs.Tree.View.{stmt_trees}
use Rattle.tm_syntax.specs.Scopes.Crossing.{blocks_cross, row_crosses}
use Rattle.tm_scope.specs.Marks.{is_marked}
use Rattle.tm_scope.proofs.CrossingRows.{all_cross, rows_of}
use Rattle.tm_scope.proofs.calls.crossing.+crossing.Given as goal

abbrev pub invariant-blocks_cross-loop-block : goal.invariant-blocks_cross-loop-block
invariant-blocks_cross-loop-block l =
    all_cross (is_marked l.calls) (rows_of (drop l.block-index l.blocks))
    ≡ blocks_cross (is_marked l.calls) (rows_of l.blocks)

abbrev pub invariant-row_crosses-loop-stmt : goal.invariant-row_crosses-loop-stmt
invariant-row_crosses-loop-stmt l =
    row_crosses (is_marked l.calls) (row_of (stmt_trees (drop l.stmt-index l.stmts)))
    ≡ row_crosses (is_marked l.calls) (row_of (stmt_trees l.stmts))

abbrev pub decreases-stmt_crosses : goal.decreases-stmt_crosses
decreases-stmt_crosses l = 3 * goal.size-stmt_crosses l

abbrev pub decreases-row_crosses : goal.decreases-row_crosses
decreases-row_crosses l = 3 * goal.size-row_crosses l + 1

abbrev pub decreases-blocks_cross : goal.decreases-blocks_cross
decreases-blocks_cross l = 3 * goal.size-blocks_cross l + 2
