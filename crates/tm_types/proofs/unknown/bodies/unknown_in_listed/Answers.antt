use Rattle.std.proofs.Common.{arith}
use Rattle.std.specs.Borrow.{Bor}
use Rattle.tm_syntax.specs.declared.tree.Stmt.{Stmt}
use Rattle.tm_syntax.specs.Tree.View.{stmt_tree}
use Rattle.tm_scope.specs.Context.{context_of}
use Rattle.tm_types.specs.Inner.UnknownParts.{unknown_in_stmt}
use Rattle.tm_types.proofs.FoundNames.{found_all, found_more}
use Rattle.tm_types.proofs.unknown.bodies.unknown_in_listed.Goals as goal

pub loop-stmt-preserved : goal.loop-stmt-preserved
loop-stmt-preserved c =
    found_more (unknown_in_stmt (context_of c.args.site.now)) (λ (s : Bor Stmt). stmt_tree s.now) c.args.stmts.now
    c.loop-stmt.stmt-index c.stmt-item.result (omega arith) c.stmt-item.is c.unknown_in_stmt.ensures
    c.earlier_mark-first.ensures c.loop-stmt.invariant

pub returns : goal.returns
returns c =
    found_all (unknown_in_stmt (context_of c.args.site.now)) (λ (s : Bor Stmt). stmt_tree s.now) c.args.stmts.now
    c.loop-stmt.stmt-index (omega arith) c.loop-stmt.invariant
