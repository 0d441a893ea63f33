use Rattle.std.proofs.Common.{is_some, refl, arith, rules, sym, ap, ◌∙◌, subst, [], ◌∷◌, ◌++◌, List, map}
use Rattle.std.proofs.lemmas.List.{map_push}
use Rattle.tm_syntax.specs.Tree.{StmtTree, StmtRow, row_of}
use Rattle.tm_syntax.specs.Tree.View.{stmt_tree, stmt_trees}
use Rattle.tm_syntax.proofs.Views.{view-If, view-While, view-Forever, view-Choice}
use Rattle.tm_parse.specs.Commands.{row_tree}
use Rattle.tm_parse.proofs.Blocks.{taken_block, no_block_opening, no_block_stmts, no_block_closing, taken_or, no_or_word, no_or_block, ChoiceSoFar, choice_begun, choice_more, choice_all, no_choice_first, no_choice_second, no_choice_next, taken_if, no_if_word, no_if_from, taken_if_from, no_if_condition, no_if_block, no_if_else, taken_no_else, taken_else, no_else, taken_else_block, no_else_block, taken_else_if, no_else_if, no_else_if_from, taken_while, no_while_word, no_while_condition, no_while_block, taken_forever, no_forever_word, no_forever_block, taken_choice, no_choice_word, no_choice_blocks}
use Rattle.tm_parse.proofs.Sorts.{StmtsSoFar, stmts_begun, stmts_next, stmts_all, no_stmts}
use Rattle.tm_parse.proofs.Taking.{ok_map, err_map}
use Rattle.tm_parse.proofs.statements.+statement.Goals as goal

pub stmts-loop-sort-init : goal.stmts-loop-sort-init
stmts-loop-sort-init t c =
    record {
      so_far = subst (λ (ss : List StmtTree).
          StmtsSoFar c.args.text.now c.args.depth ss c.args.tokens.now c.args.tokens.now)
          (sym (ap stmt_trees c.new-stmts.ensures.items)) stmts_begun;
      shorter = omega arith;
    }

pub stmts-loop-sort-preserved : goal.stmts-loop-sort-preserved
stmts-loop-sort-preserved t c =
    record {
      so_far = subst (λ (ss : List StmtTree).
          StmtsSoFar c.args.text.now c.args.depth ss c.args.tokens.now c.in-Ok.read.1.now)
          (sym (ap stmt_trees c.in_ok-push_stmt.ensures ∙ map_push stmt_tree c.loop-sort.stmts.items
          c.in-Ok.read.0))
          (stmts_next c.in-Some.sort (search rules) c.loop-sort.invariant.so_far c.in-Ok.ensures.taken);
      shorter = omega (arith, c.in-Ok.ensures.shorter);
    }

pub stmts-returns-in-Err-clause-refused : goal.stmts-returns-in-Err-clause-refused
stmts-returns-in-Err-clause-refused t c =
    no_stmts c.in-Some.sort (search rules) c.loop-sort.invariant.so_far _ c.in-Err.ensures.refused

pub stmts-returns-clause-taken : goal.stmts-returns-clause-taken
stmts-returns-clause-taken t c =
    stmts_all (search rules) c.loop-sort.invariant.so_far

pub if_stmt-returns-in-Err-clause-refused : goal.if_stmt-returns-in-Err-clause-refused
if_stmt-returns-in-Err-clause-refused t c =
    no_if_word c.args.text.now c.args.depth c.args.tokens.now _ c.in-Err.ensures.refused

pub if_stmt-returns-clause-taken : goal.if_stmt-returns-clause-taken
if_stmt-returns-clause-taken t c =
    ok_map (λ r h. taken_if c.in-Ok.ensures.taken h) c.if_from.result c.if_from.ensures.taken

pub if_stmt-returns-clause-refused : goal.if_stmt-returns-clause-refused
if_stmt-returns-clause-refused t c =
    err_map (λ e h. no_if_from c.args.text.now c.args.depth c.in-Ok.ensures.taken e h) c.if_from.result
    c.if_from.ensures.refused

pub if_from-returns-in-Err-clause-refused : goal.if_from-returns-in-Err-clause-refused
if_from-returns-in-Err-clause-refused t c =
    no_if_condition c.args.text.now c.args.depth c.args.tokens.now _ c.in-Err.ensures.refused

pub if_from-returns-in-Err-block-clause-refused : goal.if_from-returns-in-Err-block-clause-refused
if_from-returns-in-Err-block-clause-refused t c =
    no_if_block c.in-Ok.ensures.taken _ c.in-Err-block.ensures.refused

pub if_from-returns-in-Err-else_branch-clause-refused : goal.if_from-returns-in-Err-else_branch-clause-refused
if_from-returns-in-Err-else_branch-clause-refused t c =
    no_if_else c.in-Ok.ensures.taken c.in-Ok-block.ensures.taken _ c.in-Err-else_branch.ensures.refused

pub if_from-returns-clause-taken : goal.if_from-returns-clause-taken
if_from-returns-clause-taken t c =
    rw (view-If c.in-Ok.read.0 c.in-Ok-block.read.0 c.in-Ok-else_branch.read.0)
    (taken_if_from c.in-Ok.ensures.taken c.in-Ok-block.ensures.taken c.in-Ok-else_branch.ensures.taken)

pub else_branch-returns-in_default-clause-taken : goal.else_branch-returns-in_default-clause-taken
else_branch-returns-in_default-clause-taken t c =
    rw c.new.ensures.items
    (taken_no_else c.args.tokens.now (c.mark.ensures.none (ap is_some c.in_default.is)))

pub else_branch-returns-clause-taken : goal.else_branch-returns-clause-taken
else_branch-returns-clause-taken t c =
    ok_map (λ r h. taken_else c.in-Some.ensures.some c.in-Some.ensures.taken h) c.else_from.result
    c.else_from.ensures.taken

pub else_branch-returns-clause-refused : goal.else_branch-returns-clause-refused
else_branch-returns-clause-refused t c =
    err_map (λ e h. no_else c.args.text.now c.args.depth c.in-Some.ensures.some c.in-Some.ensures.taken e h)
    c.else_from.result
    c.else_from.ensures.refused

pub else_from-returns-then-ne-clause-taken : goal.else_from-returns-then-ne-clause-taken
else_from-returns-then-ne-clause-taken t c =
    ok_map (λ r h. taken_else_block c.args.tokens.now (search rules) h) c.block.result c.block.ensures.taken

pub else_from-returns-then-ne-clause-refused : goal.else_from-returns-then-ne-clause-refused
else_from-returns-then-ne-clause-refused t c =
    err_map (λ e h. no_else_block c.args.text.now c.args.depth c.args.tokens.now (search rules) e h) c.block.result
    c.block.ensures.refused

pub else_from-returns-in-Err-clause-refused : goal.else_from-returns-in-Err-clause-refused
else_from-returns-in-Err-clause-refused t c =
    no_else_if c.args.text.now c.args.depth c.args.tokens.now (search rules) _ c.in-Err.ensures.refused

pub else_from-returns-in-Err-if_from-clause-refused : goal.else_from-returns-in-Err-if_from-clause-refused
else_from-returns-in-Err-if_from-clause-refused t c =
    no_else_if_from c.args.text.now (search rules) c.in-Ok.ensures.taken _
    c.in-Err-if_from.ensures.refused

pub else_from-returns-clause-taken : goal.else_from-returns-clause-taken
else_from-returns-clause-taken t c =
    rw c.in_ok-branch.ensures.items
    (taken_else_if (search rules) c.in-Ok.ensures.taken c.in-Ok-if_from.ensures.taken)

pub while_stmt-returns-in-Err-clause-refused : goal.while_stmt-returns-in-Err-clause-refused
while_stmt-returns-in-Err-clause-refused t c =
    no_while_word c.args.text.now c.args.depth c.args.tokens.now _ c.in-Err.ensures.refused

pub while_stmt-returns-in-Err-condition-clause-refused : goal.while_stmt-returns-in-Err-condition-clause-refused
while_stmt-returns-in-Err-condition-clause-refused t c =
    no_while_condition c.args.text.now c.args.depth c.in-Ok.ensures.taken _ c.in-Err-condition.ensures.refused

pub while_stmt-returns-in-Err-block-clause-refused : goal.while_stmt-returns-in-Err-block-clause-refused
while_stmt-returns-in-Err-block-clause-refused t c =
    no_while_block c.in-Ok.ensures.taken c.in-Ok-condition.ensures.taken _ c.in-Err-block.ensures.refused

pub while_stmt-returns-clause-taken : goal.while_stmt-returns-clause-taken
while_stmt-returns-clause-taken t c =
    rw (view-While c.in-Ok.read.0 c.in-Ok-condition.read.0 c.in-Ok-block.read.0)
    (taken_while c.in-Ok.ensures.taken c.in-Ok-condition.ensures.taken c.in-Ok-block.ensures.taken)

pub forever_stmt-returns-in-Err-clause-refused : goal.forever_stmt-returns-in-Err-clause-refused
forever_stmt-returns-in-Err-clause-refused t c =
    no_forever_word c.args.text.now c.args.depth c.args.tokens.now _ c.in-Err.ensures.refused

pub forever_stmt-returns-in-Err-block-clause-refused : goal.forever_stmt-returns-in-Err-block-clause-refused
forever_stmt-returns-in-Err-block-clause-refused t c =
    no_forever_block c.args.text.now c.args.depth c.in-Ok.ensures.taken _ c.in-Err-block.ensures.refused

pub forever_stmt-returns-clause-taken : goal.forever_stmt-returns-clause-taken
forever_stmt-returns-clause-taken t c =
    rw (view-Forever c.in-Ok.read.0 c.in-Ok-block.read.0)
    (taken_forever c.in-Ok.ensures.taken c.in-Ok-block.ensures.taken)

pub choice_stmt-returns-in-Err-clause-refused : goal.choice_stmt-returns-in-Err-clause-refused
choice_stmt-returns-in-Err-clause-refused t c =
    no_choice_word c.args.text.now c.args.depth c.args.tokens.now _ c.in-Err.ensures.refused

pub choice_stmt-returns-in-Err-alternatives-clause-refused : goal.choice_stmt-returns-in-Err-alternatives-clause-refused
choice_stmt-returns-in-Err-alternatives-clause-refused t c =
    no_choice_blocks c.args.text.now c.args.depth c.in-Ok.ensures.taken _ c.in-Err-alternatives.ensures.refused

pub choice_stmt-returns-clause-taken : goal.choice_stmt-returns-clause-taken
choice_stmt-returns-clause-taken t c =
    rw (view-Choice c.in-Ok.read.0 c.in-Ok-alternatives.read.0)
    (taken_choice c.in-Ok.ensures.taken c.in-Ok-alternatives.ensures.taken)

pub alternatives-returns-in-Err-clause-refused : goal.alternatives-returns-in-Err-clause-refused
alternatives-returns-in-Err-clause-refused t c =
    no_choice_first c.args.text.now c.args.depth c.args.tokens.now _ c.in-Err.ensures.refused

pub alternatives-returns-in-Err-or_block-clause-refused : goal.alternatives-returns-in-Err-or_block-clause-refused
alternatives-returns-in-Err-or_block-clause-refused t c =
    no_choice_second c.in-Ok.ensures.taken _ c.in-Err-or_block.ensures.refused

pub alternatives-others-init : goal.alternatives-others-init
alternatives-others-init t c =
    record {
      so_far = subst (λ (rows : List StmtRow).
          ChoiceSoFar c.args.text.now c.args.depth rows c.args.tokens.now c.in-Ok-or_block.read.1.now)
          (sym (ap (map row_tree) (c.in_ok-push-2.ensures.items
          ∙ ap (λ bs. bs ++ c.in-Ok-or_block.read.0 ∷ []) (c.in_ok-push.ensures.items
          ∙ ap (λ bs. bs ++ c.in-Ok.read.0 ∷ []) c.new-rows.ensures.items))))
          (choice_begun c.in-Ok.ensures.taken c.in-Ok-or_block.ensures.taken);
      shorter = omega (arith, c.in-Ok.ensures.shorter, c.in-Ok-or_block.ensures.shorter);
    }

pub alternatives-others-preserved : goal.alternatives-others-preserved
alternatives-others-preserved t c =
    record {
      so_far = subst (λ (rows : List StmtRow).
          ChoiceSoFar c.args.text.now c.args.depth rows c.args.tokens.now c.in-Ok-or_block-2.read.1.now)
          (sym (ap (map row_tree) c.in_ok-push-3.ensures.items ∙ map_push row_tree c.others.rows.items
          c.in-Ok-or_block-2.read.0))
          (choice_more c.others.invariant.so_far c.in-Ok-or_block-2.ensures.taken);
      shorter = omega (arith, c.in-Ok-or_block-2.ensures.shorter);
    }

pub alternatives-returns-in-Err-or_block-2-clause-refused : goal.alternatives-returns-in-Err-or_block-2-clause-refused
alternatives-returns-in-Err-or_block-2-clause-refused t c =
    no_choice_next (search rules) c.others.invariant.so_far _ c.in-Err-or_block-2.ensures.refused

pub alternatives-returns-clause-taken : goal.alternatives-returns-clause-taken
alternatives-returns-clause-taken t c =
    choice_all (search rules) c.others.invariant.so_far

pub or_block-returns-in-Err-clause-refused : goal.or_block-returns-in-Err-clause-refused
or_block-returns-in-Err-clause-refused t c =
    no_or_word c.args.text.now c.args.depth c.args.tokens.now _ c.in-Err.ensures.refused

pub or_block-returns-clause-taken : goal.or_block-returns-clause-taken
or_block-returns-clause-taken t c =
    ok_map (λ r h. taken_or c.in-Ok.ensures.taken h) c.block.result c.block.ensures.taken

pub or_block-returns-clause-refused : goal.or_block-returns-clause-refused
or_block-returns-clause-refused t c =
    err_map (λ e h. no_or_block c.args.text.now c.args.depth c.in-Ok.ensures.taken e h) c.block.result
    c.block.ensures.refused

pub block-returns-in-Err-clause-refused : goal.block-returns-in-Err-clause-refused
block-returns-in-Err-clause-refused t c =
    no_block_opening c.args.text.now c.args.depth c.args.tokens.now _ c.in-Err.ensures.refused

pub block-returns-in-Err-stmts-clause-refused : goal.block-returns-in-Err-stmts-clause-refused
block-returns-in-Err-stmts-clause-refused t c =
    no_block_stmts c.args.text.now c.in-Ok.ensures.taken _ c.in-Err-stmts.ensures.refused

pub block-returns-in-Err-need-clause-refused : goal.block-returns-in-Err-need-clause-refused
block-returns-in-Err-need-clause-refused t c =
    no_block_closing c.in-Ok.ensures.taken c.in-Ok-stmts.ensures.taken _ c.in-Err-need.ensures.refused

pub block-returns-clause-taken : goal.block-returns-clause-taken
block-returns-clause-taken t c =
    taken_block c.in-Ok.ensures.taken c.in-Ok-stmts.ensures.taken c.in-Ok-need.ensures.taken
