use Rattle.std.proofs.Common.{arith}
use Rattle.std.specs.Borrow.{Bor}
use Rattle.tm_syntax.specs.declared.tree.Stmt.{Stmt}
use Rattle.tm_syntax.specs.Tree.View.{stmt_tree}
use Rattle.tm_scope.specs.Context.{context_of}
use Rattle.tm_types.specs.Inner.StmtFaults.{stmt_faults}
use Rattle.tm_types.proofs.FoundPlaces.{found_listed, found_more}
use Rattle.tm_types.proofs.mismatches.bodies.stmts_faults.Goals as goal

pub loop-stmt-preserved : goal.loop-stmt-preserved
loop-stmt-preserved c =
    found_more (stmt_faults (context_of c.args.at.now)) (λ (s : Bor Stmt). stmt_tree s.now)
    c.as_slice-stmt-items.result.now c.loop-stmt.stmt-index c.stmt-item.result (omega arith) c.stmt-item.is
    c.stmt_faults.ensures c.earlier_place-first.ensures.earlier c.loop-stmt.invariant

pub returns : goal.returns
returns c =
    found_listed (stmt_faults (context_of c.args.at.now)) (λ (s : Bor Stmt). stmt_tree s.now)
    c.as_slice-stmt-items.result.now c.in-Ok.given.items _ c.loop-stmt.stmt-index
    c.as_slice-stmt-items.ensures.value c.in-Ok.ensures (omega arith) c.loop-stmt.invariant
