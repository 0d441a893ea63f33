use Rattle.std.proofs.Common.{List, subst}
use Rattle.tm_syntax.specs.declared.tree.LocalDef.{LocalDef}
use Rattle.tm_syntax.specs.declared.tree.Stmt.{Stmt}
use Rattle.tm_syntax.specs.Tree.{row_of}
use Rattle.tm_syntax.specs.Tree.View.{stmt_trees}
use Rattle.tm_syntax.specs.Counts.Choices.{row_paths}
use Rattle.tm_scope.specs.Context.{context_of}
use Rattle.tm_limits.specs.Inner.PathSums.{AreBest}
use Rattle.tm_limits.proofs.PathRows.{locals_row}
use Rattle.tm_limits.proofs.choices.body_paths.Goals as goal

pub returns : goal.returns
returns c = λ within known.
    let at = context_of c.args.calls.now.place in
    let stmts = c.args.body.now.stmts.items in
    subst (λ (ls : List LocalDef). AreBest c.locals_paths.result (row_paths within at
    (locals_row within at (stmt_trees stmts) ls))) c.as_slice-2.ensures.value
    (c.locals_paths.ensures within (stmt_trees stmts) known
    (subst (λ (ss : List Stmt). AreBest c.row_paths-stmts.result (row_paths within at (row_of (stmt_trees ss))))
    c.as_slice.ensures.value (c.row_paths-stmts.ensures within known)))
