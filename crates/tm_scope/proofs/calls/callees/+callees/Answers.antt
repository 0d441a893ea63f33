use Rattle.std.proofs.Common.{◌≡◌, ◌+◌, ◌++◌, drop, sym, ap, ◌∙◌, arith}
use Rattle.std.specs.List.{filter_map}
use Rattle.std.proofs.lemmas.List.{at_drop_all}
use Rattle.tm_syntax.specs.Tree.{row_of}
use Rattle.tm_syntax.specs.Tree.View.{stmt_tree, stmt_trees}
use Rattle.tm_syntax.proofs.Views.{view-If}
use Rattle.tm_scope.specs.Inner.Calls.{row_calls, stmt_calls}
use Rattle.tm_scope.specs.Marks.{marked_number}
use Rattle.tm_scope.proofs.CalleeRows.{block_numbers, block_numbers-more, grown, grown_all, row_numbers, row_numbers-more, two_more}
use Rattle.tm_scope.proofs.OrderClauses.{if_ok}
use Rattle.tm_scope.proofs.calls.callees.+callees.Goals as goal

pub push_row-loop-stmt-preserved : goal.push_row-loop-stmt-preserved
push_row-loop-stmt-preserved t c =
    let number = marked_number c.args.calls.now in
    let xs = c.args.stmts.now in
    let i = c.loop-stmt.stmt-index in
    let x = c.stmt-item.result in
    grown c.loop-stmt.all.items (filter_map number (stmt_calls (stmt_tree x))) (row_numbers number (drop (i + 1) xs))
    (row_numbers number (drop i xs)) _ _ c.loop-stmt.invariant
    (row_numbers-more number xs i x (omega arith) c.stmt-item.is) c.in_ok-push_stmt.ensures

pub push_row-returns : goal.push_row-returns
push_row-returns t c =
    let number = marked_number c.args.calls.now in
    let xs = c.args.stmts.now in
    let i = c.loop-stmt.stmt-index in
    grown_all _ (row_numbers number (drop i xs)) c.loop-stmt.all.items c.loop-stmt.invariant
    (at_drop_all (row_numbers number) xs i (omega arith))

pub push_blocks-loop-block-preserved : goal.push_blocks-loop-block-preserved
push_blocks-loop-block-preserved t c =
    let number = marked_number c.args.calls.now in
    let xs = c.args.blocks.now in
    let i = c.loop-block.block-index in
    let x = c.block-item.result in
    grown c.loop-block.all.items (row_numbers number x.items) (block_numbers number (drop (i + 1) xs))
    (block_numbers number (drop i xs)) _ _ c.loop-block.invariant
    (block_numbers-more number xs i x (omega arith) c.block-item.is)
    (c.in_ok-push_row.ensures ∙ ap (λ ys. c.loop-block.all.items ++ row_numbers number ys) c.as_slice.ensures.value)

pub push_blocks-returns : goal.push_blocks-returns
push_blocks-returns t c =
    let number = marked_number c.args.calls.now in
    let xs = c.args.blocks.now in
    let i = c.loop-block.block-index in
    grown_all _ (block_numbers number (drop i xs)) c.loop-block.all.items c.loop-block.invariant
    (at_drop_all (block_numbers number) xs i (omega arith))

pub push_stmt-returns-in_ok-push_row-in-If : goal.push_stmt-returns-in_ok-push_row-in-If
push_stmt-returns-in_ok-push_row-in-If t c =
    let number = marked_number c.args.calls.now in
    let old = c.args.all.now.items in
    let first = c.in-If.first in
    let second = c.in-If.second in
    let half = c.push_row.new.all.items in
    let all = c.push_row-in-If.new.all.items in
    let parts : stmt_calls (stmt_tree c.args.stmt.now)
    ≡ row_calls (row_of (stmt_trees first.items)) ++ row_calls (row_of (stmt_trees second.items)) =
    ap (λ s. stmt_calls (stmt_tree s)) c.in-If.is ∙ ap stmt_calls (view-If c.in-If.field-0 first second) in
    let one : half ≡ old ++ row_numbers number first.items =
    c.in_ok-push_row-in-If.ensures ∙ ap (λ ss. old ++ row_numbers number ss) c.as_slice-in-If.ensures.value in
    if_ok c.push_row-in-If.result (λ _. all ≡ half ++ row_numbers number c.as_slice-in-If-2.result.now)
    (λ _. all ≡ old ++ filter_map number (stmt_calls (stmt_tree c.args.stmt.now)))
    (λ _ two. two_more number old half all (row_calls (row_of (stmt_trees first.items)))
    (row_calls (row_of (stmt_trees second.items))) one
    (two ∙ ap (λ ss. half ++ row_numbers number ss) c.as_slice-in-If-2.ensures.value)
    ∙ ap (λ cs. old ++ filter_map number cs) (sym parts))
    c.push_row-in-If.ensures
