use Rattle.std.proofs.Common.{◌≡◌, ◌+◌, ◌*◌, ◌++◌, drop}
use Rattle.tm_scope.specs.Marks.{marked_number}
use Rattle.tm_scope.proofs.CalleeRows.{block_numbers, row_numbers}
use Rattle.tm_scope.proofs.calls.callees.+callees.Given as goal

abbrev pub invariant-push_row-loop-stmt : goal.invariant-push_row-loop-stmt
invariant-push_row-loop-stmt l =
    l.all.items ++ row_numbers (marked_number l.calls) (drop l.stmt-index l.stmts)
    ≡ l.initial.all.items ++ row_numbers (marked_number l.calls) l.stmts

abbrev pub invariant-push_blocks-loop-block : goal.invariant-push_blocks-loop-block
invariant-push_blocks-loop-block l =
    l.all.items ++ block_numbers (marked_number l.calls) (drop l.block-index l.blocks)
    ≡ l.initial.all.items ++ block_numbers (marked_number l.calls) l.blocks

abbrev pub decreases-push_stmt : goal.decreases-push_stmt
decreases-push_stmt l = 3 * goal.size-push_stmt l

abbrev pub decreases-push_row : goal.decreases-push_row
decreases-push_row l = 3 * goal.size-push_row l + 1

abbrev pub decreases-push_blocks : goal.decreases-push_blocks
decreases-push_blocks l = 3 * goal.size-push_blocks l + 2
