use Rattle.std.proofs.Common.{map, sym, ap, ◌∙◌}
use Rattle.std.specs.List.{list_any}
use Rattle.std.specs.Prelude.{◌||◌}
use Rattle.tm_syntax.specs.Scopes.Crossing.{row_crosses, value_crosses}
use Rattle.tm_syntax.specs.Tree.{row_of}
use Rattle.tm_syntax.specs.Tree.View.{body_tree, local_tree, stmt_trees}
use Rattle.tm_scope.specs.Marks.{is_marked}
use Rattle.tm_scope.proofs.BodyRows.{crosses_by_rows}
use Rattle.tm_scope.proofs.calls.bodies.body_crosses.Goals as goal

pub returns-else-local_crosses : goal.returns-else-local_crosses
returns-else-local_crosses c =
    let calls = c.args.calls.now in
    c.row_crosses.ensures
    ∙ ap (λ ss. row_crosses (is_marked calls) (row_of (stmt_trees ss))) c.as_slice-else-local_crosses.ensures.value
    ∙ ap (λ b. b || row_crosses (is_marked calls) (row_of (stmt_trees c.args.body.now.stmts.items)))
    (c.if-local_crosses.ensures
    ∙ ap (λ ls. list_any (λ l. value_crosses (is_marked calls) l.value) (map local_tree ls)) c.as_slice.ensures.value)
    ∙ sym (crosses_by_rows (is_marked calls) (body_tree c.args.body.now))
