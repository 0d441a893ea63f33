use Rattle.std.proofs.Common.{◌≤◌, List, drop, length}
use Rattle.tm_syntax.specs.declared.tree.Ident.{Ident}
use Rattle.tm_syntax.specs.Tree.{StmtTree, row_of}
use Rattle.tm_syntax.specs.Counts.Choices as sums
use Rattle.tm_syntax.specs.Counts.Choices.{row_paths}
use Rattle.tm_scope.specs.Context.{context_of}
use Rattle.tm_limits.specs.Inner.PathSums.{AreBest, AreKnown}
use Rattle.tm_limits.proofs.PathRows.{locals_row}
use Rattle.tm_limits.proofs.choices.locals_paths.Given as goal

abbrev pub invariant-loop-left : goal.invariant-loop-left
invariant-loop-left l = record {
  short : l.left ≤ length l.locals;
  best : (within : List Ident → sums.Paths) (ss : List StmtTree) → AreKnown l.calls within →
      AreBest l.fn.behind (row_paths within (context_of l.calls.place) (row_of ss)) →
      AreBest l.paths (row_paths within (context_of l.calls.place)
      (locals_row within (context_of l.calls.place) ss (drop l.left l.locals)));
}

abbrev pub decreases-loop-left : goal.decreases-loop-left
decreases-loop-left l = l.left
