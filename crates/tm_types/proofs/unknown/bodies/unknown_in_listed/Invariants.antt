use Rattle.std.proofs.Common.{◌≡◌}
use Rattle.std.specs.Borrow.{Bor}
use Rattle.std.specs.Option.{option_map}
use Rattle.tm_syntax.specs.declared.tree.Stmt.{Stmt}
use Rattle.tm_syntax.specs.Tree.View.{stmt_tree}
use Rattle.tm_scope.specs.Context.{context_of}
use Rattle.tm_names.specs.ScopeNames.{mark_of}
use Rattle.tm_types.specs.Inner.UnknownParts.{unknown_in_stmt}
use Rattle.tm_types.proofs.FoundNames.{found_before}
use Rattle.tm_types.proofs.unknown.bodies.unknown_in_listed.Given as goal

abbrev pub invariant-loop-stmt : goal.invariant-loop-stmt
invariant-loop-stmt l =
    option_map mark_of l.first
    ≡ found_before (unknown_in_stmt (context_of l.site)) (λ (s : Bor Stmt). stmt_tree s.now) l.stmts l.stmt-index
