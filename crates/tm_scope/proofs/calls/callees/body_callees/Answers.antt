use Rattle.std.proofs.Common.{◌≡◌, ◌++◌, [], map, ap, ◌∙◌}
use Rattle.std.specs.List.{flat_map}
use Rattle.tm_syntax.specs.Tree.{LocalTree, row_of}
use Rattle.tm_syntax.specs.Tree.View.{body_tree, local_tree, stmt_trees}
use Rattle.tm_syntax.specs.Scopes.Parts.{value_calls}
use Rattle.tm_scope.specs.Inner.Calls.{row_calls}
use Rattle.tm_scope.specs.Marks.{marked_number}
use Rattle.tm_scope.proofs.CalleeRows.{body_numbers, local_numbers, row_numbers, two_more}
use Rattle.tm_scope.proofs.calls.callees.body_callees.Goals as goal

pub returns : goal.returns
returns c =
    let number = marked_number c.args.calls.now in
    let body = c.args.body.now in
    let half = c.push_locals.new.all.items in
    let one : half ≡ [] ++ local_numbers number body.locals.items =
    c.in_ok-push_locals.ensures
    ∙ (λ i. c.new-all.ensures.items i ++ local_numbers number (c.as_slice.ensures.value i)) in
    let two : c.push_row.new.all.items ≡ half ++ row_numbers number body.stmts.items =
    c.in_ok-push_row.ensures ∙ ap (λ ss. half ++ row_numbers number ss) c.as_slice-2.ensures.value in
    two_more number [] half c.push_row.new.all.items
    (flat_map (λ (l : LocalTree). value_calls l.value) (map local_tree body.locals.items))
    (row_calls (row_of (stmt_trees body.stmts.items))) one two
    ∙ body_numbers number (body_tree body)
