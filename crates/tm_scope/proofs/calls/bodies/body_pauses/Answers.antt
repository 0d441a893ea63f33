use Rattle.std.proofs.Common.{map, sym, ap, ◌∙◌}
use Rattle.std.specs.List.{list_any}
use Rattle.std.specs.Prelude.{◌||◌}
use Rattle.tm_syntax.specs.Scopes.Pauses.{row_pauses, value_pauses}
use Rattle.tm_syntax.specs.Tree.{row_of}
use Rattle.tm_syntax.specs.Tree.View.{body_tree, local_tree, stmt_trees}
use Rattle.tm_scope.specs.Marks.{is_marked}
use Rattle.tm_scope.proofs.BodyRows.{pauses_by_rows}
use Rattle.tm_scope.proofs.calls.bodies.body_pauses.Goals as goal

pub returns-else-local_pauses : goal.returns-else-local_pauses
returns-else-local_pauses c =
    let calls = c.args.calls.now in
    c.row_pauses.ensures
    ∙ ap (λ ss. row_pauses (is_marked calls) (row_of (stmt_trees ss))) c.as_slice-else-local_pauses.ensures.value
    ∙ ap (λ b. b || row_pauses (is_marked calls) (row_of (stmt_trees c.args.body.now.stmts.items)))
    (c.if-local_pauses.ensures
    ∙ ap (λ ls. list_any (λ l. value_pauses (is_marked calls) l.value) (map local_tree ls)) c.as_slice.ensures.value)
    ∙ sym (pauses_by_rows (is_marked calls) (body_tree c.args.body.now))
