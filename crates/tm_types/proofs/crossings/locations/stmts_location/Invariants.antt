use Rattle.std.proofs.Common.{◌≡◌}
use Rattle.std.specs.Borrow.{Bor}
use Rattle.tm_syntax.specs.declared.tree.Stmt.{Stmt}
use Rattle.tm_syntax.specs.Tree.View.{stmt_tree}
use Rattle.tm_scope.specs.Marks.{is_marked}
use Rattle.tm_types.specs.Inner.Crossings.{locations_of}
use Rattle.tm_types.proofs.FoundPlaces.{found_before}
use Rattle.tm_types.proofs.crossings.locations.stmts_location.Given as goal

abbrev pub invariant-loop-stmt : goal.invariant-loop-stmt
invariant-loop-stmt l =
    l.first
    ≡ found_before (locations_of (is_marked l.calls)) (λ (s : Bor Stmt). stmt_tree s.now) l.stmt-items l.stmt-index
