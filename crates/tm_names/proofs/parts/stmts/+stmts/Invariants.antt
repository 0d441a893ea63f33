use Rattle.std.proofs.Common.{◌≡◌, ◌+◌, ◌*◌, ◌++◌, drop}
use Rattle.tm_syntax.specs.Tree.{row_of}
use Rattle.tm_syntax.specs.Tree.View.{stmt_trees}
use Rattle.tm_syntax.specs.Scopes.Parts.{block_stmts, row_stmts}
use Rattle.tm_names.specs.Parts.{listed_stmts}
use Rattle.tm_names.proofs.StmtRows.{rows_of}
use Rattle.tm_names.proofs.parts.stmts.+stmts.Given as goal

abbrev pub invariant-push_row-loop-stmt : goal.invariant-push_row-loop-stmt
invariant-push_row-loop-stmt l =
    listed_stmts l.all.items ++ row_stmts (row_of (stmt_trees (drop l.stmt-index l.stmts)))
    ≡ listed_stmts l.initial.all.items ++ row_stmts (row_of (stmt_trees l.stmts))

abbrev pub invariant-push_blocks-loop-block : goal.invariant-push_blocks-loop-block
invariant-push_blocks-loop-block l =
    listed_stmts l.all.items ++ block_stmts (rows_of (drop l.block-index l.blocks))
    ≡ listed_stmts l.initial.all.items ++ block_stmts (rows_of l.blocks)

abbrev pub decreases-push_inner : goal.decreases-push_inner
decreases-push_inner l = 3 * goal.size-push_inner l

abbrev pub decreases-push_row : goal.decreases-push_row
decreases-push_row l = 3 * goal.size-push_row l + 1

abbrev pub decreases-push_blocks : goal.decreases-push_blocks
decreases-push_blocks l = 3 * goal.size-push_blocks l + 2
