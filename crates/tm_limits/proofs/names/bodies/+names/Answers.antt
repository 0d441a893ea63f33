use Rattle.std.proofs.Common.{◌<◌, ℕ, length, sym, ap, ◌∙◌, arith}
use Rattle.std.specs.List.{flat_map}
use Rattle.std.proofs.lemmas.List.{take_all}
use Rattle.tm_limits.proofs.LongNames.{block_names, long_joined, long_more_plain, row_names, stmt_names}
use Rattle.tm_limits.specs.LongNames.{first_long, own_names}
use Rattle.tm_syntax.specs.Scopes.Parts.{inner_stmts, row_stmts}
use Rattle.tm_syntax.specs.Tree.{row_of}
use Rattle.tm_syntax.specs.Tree.View.{stmt_tree, stmt_trees}
use Rattle.tm_syntax.proofs.Views.{view-If}
use Rattle.tm_limits.proofs.NameLists.{both_stmts}
use Rattle.tm_limits.proofs.names.bodies.+names.Goals as goal

pub inner_long-returns-in-If : goal.inner_long-returns-in-If
inner_long-returns-in-If t c =
    let own = own_names c.args.sought in
    let first = row_stmts (row_of (stmt_trees c.in-If.first.items)) in
    let second = row_stmts (row_of (stmt_trees c.in-If.second.items)) in
    both_stmts c.args.sought first second _ (c.earlier.ensures (flat_map own first) (flat_map own second)
    (c.row_long.ensures ∙ ap (λ ss. first_long (flat_map own (row_stmts (row_of (stmt_trees ss)))))
    c.as_slice.ensures.value)
    (c.row_long-in-If.ensures ∙ ap (λ ss. first_long (flat_map own (row_stmts (row_of (stmt_trees ss)))))
    c.as_slice-in-If.ensures.value))
    ∙ ap (λ s. first_long (flat_map own (inner_stmts s)))
    (sym (ap stmt_tree c.in-If.is ∙ view-If c.in-If.field-0 c.in-If.first c.in-If.second))

pub row_long-loop-stmt-preserved : goal.row_long-loop-stmt-preserved
row_long-loop-stmt-preserved t c =
    let xs = c.args.stmts.now in
    let i : ℕ = c.loop-stmt.stmt-index in
    let x = c.stmt-item.result in
    let within : i < length xs = omega arith in
    long_more_plain (stmt_names c.args.sought) xs i x _ _ _ within c.stmt-item.is
    (long_joined _ _ _ (own_names c.args.sought (stmt_tree x))
    (flat_map (own_names c.args.sought) (inner_stmts (stmt_tree x))) c.earlier-own.ensures c.own_long.ensures
    c.inner_long.ensures) c.earlier-first.ensures c.loop-stmt.invariant

pub row_long-returns : goal.row_long-returns
row_long-returns t c =
    c.loop-stmt.invariant
    ∙ ap (λ xs. first_long (flat_map (stmt_names c.args.sought) xs))
    (take_all c.loop-stmt.stmt-index c.args.stmts.now (omega arith))
    ∙ ap first_long (sym (row_names c.args.sought c.args.stmts.now))

pub blocks_long-loop-block-preserved : goal.blocks_long-loop-block-preserved
blocks_long-loop-block-preserved t c =
    let xs = c.args.blocks.now in
    let i : ℕ = c.loop-block.block-index in
    let x = c.block-item.result in
    let within : i < length xs = omega arith in
    long_more_plain (λ b. flat_map (stmt_names c.args.sought) b.items) xs i x _ _ _ within c.block-item.is
    (c.row_long.ensures ∙ ap first_long (row_names c.args.sought _
    ∙ ap (flat_map (stmt_names c.args.sought)) c.as_slice.ensures.value)) c.earlier-first.ensures c.loop-block.invariant

pub blocks_long-returns : goal.blocks_long-returns
blocks_long-returns t c =
    c.loop-block.invariant
    ∙ ap (λ xs. first_long (flat_map (λ b. flat_map (stmt_names c.args.sought) b.items) xs))
    (take_all c.loop-block.block-index c.args.blocks.now (omega arith))
    ∙ ap first_long (sym (block_names c.args.sought c.args.blocks.now))
