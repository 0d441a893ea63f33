use Rattle.std.proofs.Common.{◌≤◌, ◌<◌, ◌+◌, ◌-◌, ◌*◌, length, map}
use Rattle.tm_syntax.specs.Tree.View.{stmt_trees}
use Rattle.tm_parse.specs.Commands.{row_tree}
use Rattle.tm_parse.proofs.Blocks.{ChoiceSoFar}
use Rattle.tm_parse.proofs.Sorts.{StmtsSoFar}
use Rattle.tm_parse.proofs.statements.+statement.Given as goal

abbrev pub decreases-stmts : goal.decreases-stmts
decreases-stmts l = (128 - l.depth) * 16 + 9

abbrev pub decreases-stmt : goal.decreases-stmt
decreases-stmt l = (128 - l.depth) * 16 + 8

abbrev pub decreases-if_stmt : goal.decreases-if_stmt
decreases-if_stmt l = (128 - l.depth) * 16 + 7

abbrev pub decreases-while_stmt : goal.decreases-while_stmt
decreases-while_stmt l = (128 - l.depth) * 16 + 7

abbrev pub decreases-forever_stmt : goal.decreases-forever_stmt
decreases-forever_stmt l = (128 - l.depth) * 16 + 7

abbrev pub decreases-choice_stmt : goal.decreases-choice_stmt
decreases-choice_stmt l = (128 - l.depth) * 16 + 7

abbrev pub decreases-if_from : goal.decreases-if_from
decreases-if_from l = (128 - l.depth) * 16 + 6

abbrev pub decreases-else_branch : goal.decreases-else_branch
decreases-else_branch l = (128 - l.depth) * 16 + 5

abbrev pub decreases-else_from : goal.decreases-else_from
decreases-else_from l = (128 - l.depth) * 16 + 4

abbrev pub decreases-alternatives : goal.decreases-alternatives
decreases-alternatives l = (128 - l.depth) * 16 + 4

abbrev pub decreases-or_block : goal.decreases-or_block
decreases-or_block l = (128 - l.depth) * 16 + 3

abbrev pub decreases-block : goal.decreases-block
decreases-block l = (128 - l.depth) * 16 + 2

abbrev pub invariant-stmts-loop-sort : goal.invariant-stmts-loop-sort
invariant-stmts-loop-sort l = record {
  so_far : StmtsSoFar l.text l.depth (stmt_trees l.stmts.items) l.tokens l.rest;
  shorter : length l.rest ≤ length l.tokens;
}

abbrev pub decreases-stmts-loop-sort : goal.decreases-stmts-loop-sort
decreases-stmts-loop-sort l = length l.rest

abbrev pub invariant-alternatives-others : goal.invariant-alternatives-others
invariant-alternatives-others l = record {
  so_far : ChoiceSoFar l.text l.depth (map row_tree l.rows.items) l.tokens l.rest;
  shorter : length l.rest < length l.tokens;
}

abbrev pub decreases-alternatives-others : goal.decreases-alternatives-others
decreases-alternatives-others l = length l.rest
