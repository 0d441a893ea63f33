use Rattle.std.proofs.Common.{◌+◌, ◌*◌, ◌≤◌, List, drop, length}
use Rattle.tm_syntax.specs.declared.tree.Ident.{Ident}
use Rattle.tm_syntax.specs.Tree.{row_of}
use Rattle.tm_syntax.specs.Tree.View.{stmt_trees}
use Rattle.tm_syntax.specs.Counts.Choices as sums
use Rattle.tm_syntax.specs.Counts.Choices.{block_paths, row_paths}
use Rattle.tm_scope.specs.Context.{context_of}
use Rattle.tm_limits.specs.Inner.PathSums.{AreBest, AreKnown}
use Rattle.tm_limits.proofs.PathRows.{blocks_row}
use Rattle.tm_limits.proofs.choices.+paths.Given as goal

abbrev pub invariant-row_paths-loop-left : goal.invariant-row_paths-loop-left
invariant-row_paths-loop-left l = record {
  short : l.left ≤ length l.stmts;
  best : (within : List Ident → sums.Paths) → AreKnown l.calls within →
      AreBest l.paths (row_paths within (context_of l.calls.place) (row_of (stmt_trees (drop l.left l.stmts))));
}

abbrev pub decreases-row_paths-loop-left : goal.decreases-row_paths-loop-left
decreases-row_paths-loop-left l = l.left

abbrev pub invariant-blocks_paths-loop-left : goal.invariant-blocks_paths-loop-left
invariant-blocks_paths-loop-left l = record {
  short : l.left ≤ length l.blocks;
  best : (within : List Ident → sums.Paths) → AreKnown l.calls within →
      AreBest l.paths (block_paths within (context_of l.calls.place)
      (blocks_row within (context_of l.calls.place) (drop l.left l.blocks)));
}

abbrev pub decreases-blocks_paths-loop-left : goal.decreases-blocks_paths-loop-left
decreases-blocks_paths-loop-left l = l.left

abbrev pub decreases-stmt_paths : goal.decreases-stmt_paths
decreases-stmt_paths l = 4 * goal.size-stmt_paths l

abbrev pub decreases-row_paths : goal.decreases-row_paths
decreases-row_paths l = 4 * goal.size-row_paths l + 1

abbrev pub decreases-blocks_paths : goal.decreases-blocks_paths
decreases-blocks_paths l = 4 * goal.size-blocks_paths l + 2

abbrev pub decreases-choice_paths : goal.decreases-choice_paths
decreases-choice_paths l = 4 * goal.size-choice_paths l + 3
