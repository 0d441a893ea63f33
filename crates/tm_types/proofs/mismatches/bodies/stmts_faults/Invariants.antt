use Rattle.std.proofs.Common.{◌≡◌}
use Rattle.std.specs.Borrow.{Bor}
use Rattle.tm_syntax.specs.declared.tree.Stmt.{Stmt}
use Rattle.tm_syntax.specs.Tree.View.{stmt_tree}
use Rattle.tm_scope.specs.Context.{context_of}
use Rattle.tm_types.specs.Inner.StmtFaults.{stmt_faults}
use Rattle.tm_types.proofs.FoundPlaces.{found_before}
use Rattle.tm_types.proofs.mismatches.bodies.stmts_faults.Given as goal

abbrev pub invariant-loop-stmt : goal.invariant-loop-stmt
invariant-loop-stmt l = l.first ≡ found_before (stmt_faults (context_of l.at)) (λ (s : Bor Stmt). stmt_tree s.now)
    l.stmt-items l.stmt-index
