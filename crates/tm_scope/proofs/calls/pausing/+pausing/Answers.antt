use Rattle.std.proofs.Common.{◌≡◌, ◌+◌, true, false, drop, sym, ap, ◌∙◌, arith}
use Rattle.std.specs.Prelude.{◌||◌}
use Rattle.std.proofs.lemmas.List.{at_drop_all}
use Rattle.tm_syntax.specs.Tree.{row_of}
use Rattle.tm_syntax.specs.Tree.View.{stmt_trees}
use Rattle.tm_syntax.specs.Scopes.Pauses.{row_pauses, block_pauses}
use Rattle.tm_scope.specs.Marks.{is_marked}
use Rattle.tm_scope.proofs.CrossingRows.{block_pauses-more, row_pauses-more, rows_of}
use Rattle.tm_scope.proofs.calls.pausing.+pausing.Goals as goal

pub row_pauses-returns-then-stmt_pauses : goal.row_pauses-returns-then-stmt_pauses
row_pauses-returns-then-stmt_pauses t c =
    let calls = c.args.calls.now in
    let xs = c.args.stmts.now in
    sym (sym c.loop-stmt.invariant
    ∙ row_pauses-more (is_marked calls) xs c.loop-stmt.stmt-index c.stmt-item.result (omega arith) c.stmt-item.is
    ∙ ap (λ b. b || row_pauses (is_marked calls) (row_of (stmt_trees (drop (c.loop-stmt.stmt-index + 1) xs))))
    (sym c.if-stmt_pauses.ensures))

pub row_pauses-loop-stmt-preserved : goal.row_pauses-loop-stmt-preserved
row_pauses-loop-stmt-preserved t c =
    let calls = c.args.calls.now in
    let xs = c.args.stmts.now in
    sym (row_pauses-more (is_marked calls) xs c.loop-stmt.stmt-index c.stmt-item.result (omega arith) c.stmt-item.is
    ∙ ap (λ b. b || row_pauses (is_marked calls) (row_of (stmt_trees (drop (c.loop-stmt.stmt-index + 1) xs))))
    (sym c.if-stmt_pauses.ensures))
    ∙ c.loop-stmt.invariant

pub row_pauses-returns : goal.row_pauses-returns
row_pauses-returns t c =
    sym (at_drop_all (λ ys. row_pauses (is_marked c.args.calls.now) (row_of (stmt_trees ys))) c.args.stmts.now
    c.loop-stmt.stmt-index (omega arith))
    ∙ c.loop-stmt.invariant

pub block_pauses-returns-then-row_pauses : goal.block_pauses-returns-then-row_pauses
block_pauses-returns-then-row_pauses t c =
    let calls = c.args.calls.now in
    let xs = c.args.blocks.now in
    let here : row_pauses (is_marked calls) (row_of (stmt_trees c.block-item.result.items)) ≡ true =
    ap (λ ys. row_pauses (is_marked calls) (row_of (stmt_trees ys))) (sym c.as_slice.ensures.value)
    ∙ sym c.if-row_pauses.ensures in
    sym (sym c.loop-block.invariant
    ∙ block_pauses-more (is_marked calls) xs c.loop-block.block-index c.block-item.result (omega arith) c.block-item.is
    ∙ ap (λ b. b || block_pauses (is_marked calls) (rows_of (drop (c.loop-block.block-index + 1) xs))) here)

pub block_pauses-loop-block-preserved : goal.block_pauses-loop-block-preserved
block_pauses-loop-block-preserved t c =
    let calls = c.args.calls.now in
    let xs = c.args.blocks.now in
    let here : row_pauses (is_marked calls) (row_of (stmt_trees c.block-item.result.items)) ≡ false =
    ap (λ ys. row_pauses (is_marked calls) (row_of (stmt_trees ys))) (sym c.as_slice.ensures.value)
    ∙ sym c.if-row_pauses.ensures in
    sym (block_pauses-more (is_marked calls) xs c.loop-block.block-index c.block-item.result
    (omega arith) c.block-item.is
    ∙ ap (λ b. b || block_pauses (is_marked calls) (rows_of (drop (c.loop-block.block-index + 1) xs))) here)
    ∙ c.loop-block.invariant

pub block_pauses-returns : goal.block_pauses-returns
block_pauses-returns t c =
    sym (at_drop_all (λ ys. block_pauses (is_marked c.args.calls.now) (rows_of ys)) c.args.blocks.now
    c.loop-block.block-index (omega arith))
    ∙ c.loop-block.invariant
