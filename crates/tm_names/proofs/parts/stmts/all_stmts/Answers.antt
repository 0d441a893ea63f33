use Rattle.std.proofs.Common.{◌++◌, ap, ◌∙◌}
use Rattle.tm_syntax.specs.Tree.{row_of}
use Rattle.tm_syntax.specs.Tree.View.{stmt_trees}
use Rattle.tm_syntax.specs.Scopes.Parts.{row_stmts}
use Rattle.tm_names.specs.Parts.{listed_stmts}
use Rattle.tm_names.proofs.StmtRows.{all_stmts-row}
use Rattle.tm_names.proofs.parts.stmts.all_stmts.Goals as goal

pub returns : goal.returns
returns c =
    c.in_ok-push_row.ensures
    ∙ ap (λ xs. listed_stmts xs ++ row_stmts (row_of (stmt_trees c.args.stmts.now))) c.new-all.ensures.items
    ∙ all_stmts-row (stmt_trees c.args.stmts.now)
