use Rattle.std.proofs.Common.{◌≡◌, ◌<◌, ◌++◌, ℕ, length, sym, ap, ◌∙◌, arith}
use Rattle.std.specs.Prelude.{sum_by}
use Rattle.std.proofs.lemmas.List.{take_all}
use Rattle.tm_syntax.specs.Tree.{row_of}
use Rattle.tm_syntax.specs.Tree.View.{stmt_tree, stmt_trees}
use Rattle.tm_syntax.specs.Scopes.Parts.{inner_stmts, row_stmts}
use Rattle.tm_syntax.proofs.Views.{view-If}
use Rattle.tm_limits.specs.Amount.{capped}
use Rattle.tm_limits.specs.Inner.Weights.{sum_weights}
use Rattle.tm_limits.proofs.Sums.{sum_more}
use Rattle.tm_limits.proofs.WeightSums.{block_sum-is, row_sum, row_sum-is, stmt_sum, sums_append}
use Rattle.tm_limits.proofs.weights.+weights.Goals as goal

pub row_weight-loop-stmt-preserved : goal.row_weight-loop-stmt-preserved
row_weight-loop-stmt-preserved t c =
    let x = c.args.calls.now in
    let stmts = c.args.stmts.now in
    let i : ℕ = c.loop-stmt.stmt-index in
    let within : i < length stmts = omega arith in
    sum_more (stmt_sum x) stmts i c.stmt-item.result c.sum-total.result within c.stmt-item.is
    (c.sum-total.ensures _ (stmt_sum x c.stmt-item.result) c.loop-stmt.invariant c.stmt_weight.ensures)

pub row_weight-returns : goal.row_weight-returns
row_weight-returns t c =
    c.loop-stmt.invariant
    ∙ ap (λ ss. capped (sum_by (stmt_sum c.args.calls.now) ss))
    (take_all c.loop-stmt.stmt-index c.args.stmts.now (omega arith))
    ∙ ap capped (sym (row_sum-is c.args.calls.now c.args.stmts.now))

pub blocks_weight-loop-block-preserved : goal.blocks_weight-loop-block-preserved
blocks_weight-loop-block-preserved t c =
    let x = c.args.calls.now in
    let blocks = c.args.blocks.now in
    let i : ℕ = c.loop-block.block-index in
    let within : i < length blocks = omega arith in
    sum_more (λ b. row_sum x b.items) blocks i c.block-item.result c.sum-total.result within c.block-item.is
    (c.sum-total.ensures _ (row_sum x c.block-item.result.items) c.loop-block.invariant
    (c.row_weight.ensures ∙ ap (λ ss. capped (row_sum x ss)) c.as_slice.ensures.value))

pub blocks_weight-returns : goal.blocks_weight-returns
blocks_weight-returns t c =
    c.loop-block.invariant
    ∙ ap (λ bs. capped (sum_by (λ b. row_sum c.args.calls.now b.items) bs))
    (take_all c.loop-block.block-index c.args.blocks.now (omega arith))
    ∙ ap capped (sym (block_sum-is c.args.calls.now c.args.blocks.now))

pub inner_weight-returns-in-If : goal.inner_weight-returns-in-If
inner_weight-returns-in-If t c =
    let x = c.args.calls.now in
    let first = c.in-If.first.items in
    let second = c.in-If.second.items in
    let parts : inner_stmts (stmt_tree c.args.stmt.now)
    ≡ row_stmts (row_of (stmt_trees first)) ++ row_stmts (row_of (stmt_trees second)) =
    ap (λ s. inner_stmts (stmt_tree s)) c.in-If.is
    ∙ ap inner_stmts (view-If c.in-If.field-0 c.in-If.first c.in-If.second) in
    c.sum.ensures (row_sum x first) (row_sum x second)
    (c.row_weight.ensures ∙ ap (λ ss. capped (row_sum x ss)) c.as_slice.ensures.value)
    (c.row_weight-in-If.ensures ∙ ap (λ ss. capped (row_sum x ss)) c.as_slice-in-If.ensures.value)
    ∙ ap capped (sym (ap (sum_weights x) parts
    ∙ sums_append x (row_stmts (row_of (stmt_trees first))) (row_stmts (row_of (stmt_trees second)))))
