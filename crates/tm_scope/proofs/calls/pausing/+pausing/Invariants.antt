use Rattle.std.proofs.Common.{◌≡◌, ◌+◌, ◌*◌, drop}
use Rattle.tm_syntax.specs.Tree.{row_of}
use Rattle.tm_syntax.specs.Tree.View.{stmt_trees}
use Rattle.tm_syntax.specs.Scopes.Pauses.{block_pauses, row_pauses}
use Rattle.tm_scope.specs.Marks.{is_marked}
use Rattle.tm_scope.proofs.CrossingRows.{rows_of}
use Rattle.tm_scope.proofs.calls.pausing.+pausing.Given as goal

abbrev pub invariant-block_pauses-loop-block : goal.invariant-block_pauses-loop-block
invariant-block_pauses-loop-block l =
    block_pauses (is_marked l.calls) (rows_of (drop l.block-index l.blocks))
    ≡ block_pauses (is_marked l.calls) (rows_of l.blocks)

abbrev pub invariant-row_pauses-loop-stmt : goal.invariant-row_pauses-loop-stmt
invariant-row_pauses-loop-stmt l =
    row_pauses (is_marked l.calls) (row_of (stmt_trees (drop l.stmt-index l.stmts)))
    ≡ row_pauses (is_marked l.calls) (row_of (stmt_trees l.stmts))

abbrev pub decreases-stmt_pauses : goal.decreases-stmt_pauses
decreases-stmt_pauses l = 3 * goal.size-stmt_pauses l

abbrev pub decreases-row_pauses : goal.decreases-row_pauses
decreases-row_pauses l = 3 * goal.size-row_pauses l + 1

abbrev pub decreases-block_pauses : goal.decreases-block_pauses
decreases-block_pauses l = 3 * goal.size-block_pauses l + 2
