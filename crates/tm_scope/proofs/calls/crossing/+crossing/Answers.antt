use Rattle.std.proofs.Common.{◌≡◌, ◌+◌, Bool, true, false, List, [], ◌∷◌, length, drop, sym, ap, ◌∙◌, true≢false, arith}
use Rattle.std.specs.Prelude.{◌||◌, ◌&&◌, ◌==◌}
use Rattle.std.specs.declared.alloc.Global.{Global}
use Rattle.std.specs.declared.vec.Vec.{Vec}
use Rattle.std.proofs.lemmas.List.{at_drop_all}
use Rattle.tm_syntax.specs.declared.tree.Ident.{Ident}
use Rattle.tm_syntax.specs.declared.tree.Stmt.{Stmt}
use Rattle.tm_syntax.specs.Tree.{row_of}
use Rattle.tm_syntax.specs.Tree.View.{stmt_trees}
use Rattle.tm_syntax.specs.Scopes.Crossing.{row_crosses, blocks_cross}
use Rattle.tm_scope.specs.Marks.{is_marked}
use Rattle.tm_scope.proofs.CrossingRows.{all_cross, all_cross-more, all_cross-some, row_crosses-more, rows_of}
use Rattle.tm_scope.proofs.calls.crossing.+crossing.Goals as goal

pub row_crosses-returns-then-stmt_crosses : goal.row_crosses-returns-then-stmt_crosses
row_crosses-returns-then-stmt_crosses t c =
    let calls = c.args.calls.now in
    let xs = c.args.stmts.now in
    sym (sym c.loop-stmt.invariant
    ∙ row_crosses-more (is_marked calls) xs c.loop-stmt.stmt-index c.stmt-item.result (omega arith) c.stmt-item.is
    ∙ ap (λ b. b || row_crosses (is_marked calls) (row_of (stmt_trees (drop (c.loop-stmt.stmt-index + 1) xs))))
    (sym c.if-stmt_crosses.ensures))

pub row_crosses-loop-stmt-preserved : goal.row_crosses-loop-stmt-preserved
row_crosses-loop-stmt-preserved t c =
    let calls = c.args.calls.now in
    let xs = c.args.stmts.now in
    sym (row_crosses-more (is_marked calls) xs c.loop-stmt.stmt-index c.stmt-item.result (omega arith) c.stmt-item.is
    ∙ ap (λ b. b || row_crosses (is_marked calls) (row_of (stmt_trees (drop (c.loop-stmt.stmt-index + 1) xs))))
    (sym c.if-stmt_crosses.ensures))
    ∙ c.loop-stmt.invariant

pub row_crosses-returns : goal.row_crosses-returns
row_crosses-returns t c =
    sym (at_drop_all (λ ys. row_crosses (is_marked c.args.calls.now) (row_of (stmt_trees ys))) c.args.stmts.now
    c.loop-stmt.stmt-index (omega arith))
    ∙ c.loop-stmt.invariant

-- blocks that are there
some_cross : (called : List Ident → Bool) (blocks : List (Vec Stmt Global)) → false ≡ (length blocks == 0) →
    all_cross called (rows_of blocks) ≡ blocks_cross called (rows_of blocks)
some_cross called [] some = absurd (true≢false (sym some))
some_cross called (b ∷ bs) some = sym (all_cross-some called b bs)

pub blocks_cross-loop-block-init : goal.blocks_cross-loop-block-init
blocks_cross-loop-block-init t c = some_cross (is_marked c.args.calls.now) c.args.blocks.now c.if-is_empty.ensures

pub blocks_cross-returns-then-not-row_crosses : goal.blocks_cross-returns-then-not-row_crosses
blocks_cross-returns-then-not-row_crosses t c =
    let calls = c.args.calls.now in
    let xs = c.args.blocks.now in
    let here : row_crosses (is_marked calls) (row_of (stmt_trees c.block-item.result.items)) ≡ false =
    ap (λ ys. row_crosses (is_marked calls) (row_of (stmt_trees ys))) (sym c.as_slice.ensures.value)
    ∙ sym c.if-not-row_crosses.ensures in
    sym (sym c.loop-block.invariant
    ∙ all_cross-more (is_marked calls) xs c.loop-block.block-index c.block-item.result (omega arith) c.block-item.is
    ∙ ap (λ b. b && all_cross (is_marked calls) (rows_of (drop (c.loop-block.block-index + 1) xs))) here)

pub blocks_cross-loop-block-preserved : goal.blocks_cross-loop-block-preserved
blocks_cross-loop-block-preserved t c =
    let calls = c.args.calls.now in
    let xs = c.args.blocks.now in
    let here : row_crosses (is_marked calls) (row_of (stmt_trees c.block-item.result.items)) ≡ true =
    ap (λ ys. row_crosses (is_marked calls) (row_of (stmt_trees ys))) (sym c.as_slice.ensures.value)
    ∙ sym c.if-not-row_crosses.ensures in
    sym (all_cross-more (is_marked calls) xs c.loop-block.block-index c.block-item.result (omega arith) c.block-item.is
    ∙ ap (λ b. b && all_cross (is_marked calls) (rows_of (drop (c.loop-block.block-index + 1) xs))) here)
    ∙ c.loop-block.invariant

pub blocks_cross-returns : goal.blocks_cross-returns
blocks_cross-returns t c =
    sym (at_drop_all (λ ys. all_cross (is_marked c.args.calls.now) (rows_of ys)) c.args.blocks.now
    c.loop-block.block-index (omega arith))
    ∙ c.loop-block.invariant
