use Rattle.std.proofs.Common.{◌≡◌, ◌++◌, drop}
use Rattle.std.specs.Borrow.{Bor}
use Rattle.std.specs.List.{flat_map}
use Rattle.tm_syntax.specs.declared.tree.Stmt.{Stmt}
use Rattle.tm_syntax.specs.Tree.View.{stmt_tree}
use Rattle.tm_syntax.specs.Scopes.Parts.{stmt_exprs}
use Rattle.tm_scope.specs.Context.{context_of}
use Rattle.tm_names.specs.Asked.{all_asked}
use Rattle.tm_names.proofs.parts.bodies.push_stmts.Given as goal

abbrev pub invariant-loop-stmt : goal.invariant-loop-stmt
invariant-loop-stmt l =
    all_asked l.asked.items
    ++ flat_map (λ (s : Bor Stmt). stmt_exprs (context_of l.site) (stmt_tree s.now)) (drop l.stmt-index l.stmts)
    ≡ all_asked l.initial.asked.items
    ++ flat_map (λ (s : Bor Stmt). stmt_exprs (context_of l.site) (stmt_tree s.now)) l.stmts
