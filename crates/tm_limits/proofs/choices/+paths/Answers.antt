use Rattle.std.proofs.Common.{◌≡◌, ◌-◌, ◌<◌, ◌≤◌, ℕ, List, drop, length, refl, sym, ap, ◌∙◌, subst, arith}
use Rattle.std.specs.Option.{option_map}
use Rattle.std.specs.declared.alloc.Global.{Global}
use Rattle.std.specs.declared.vec.Vec.{Vec}
use Rattle.std.proofs.lemmas.List.{at_drop_all}
use Rattle.tm_syntax.specs.declared.tree.Ident.{Ident}
use Rattle.tm_syntax.specs.declared.tree.Stmt.{Stmt}
use Rattle.tm_syntax.specs.Tree.{assert, assign, assume, choose, row_of}
use Rattle.tm_syntax.specs.Tree.View.{expr_tree, stmt_tree, stmt_trees, value_tree}
use Rattle.tm_syntax.specs.Design.Sizes.{bits_of_number}
use Rattle.tm_syntax.specs.Counts.Choices.{block_paths, choosing, in_row, row_paths, stmt_paths}
use Rattle.tm_syntax.proofs.Views.{view-Assert, view-Assign, view-Assume, view-Choice}
use Rattle.tm_scope.specs.Context.{context_of}
use Rattle.tm_limits.specs.Amount.{capped}
use Rattle.tm_limits.specs.Inner.PathSums.{AreBest}
use Rattle.tm_limits.proofs.PathRows.{block_before, blocks_row, length-blocks, row_before, seen}
use Rattle.tm_limits.proofs.choices.+paths.Goals as goal

pub row_paths-loop-left-init : goal.row_paths-loop-left-init
row_paths-loop-left-init t c = record {
  short = omega arith;
  best = λ within known.
      subst (λ r. AreBest c.choosing-paths.result (row_paths within (context_of c.args.calls.now.place) r))
      (sym (at_drop_all (λ ys. row_of (stmt_trees ys)) c.args.stmts.now (length c.args.stmts.now)
      (omega arith))) (c.choosing-paths.ensures 0 refl);
}

pub row_paths-loop-left-preserved : goal.row_paths-loop-left-preserved
row_paths-loop-left-preserved t c =
    let left : ℕ = c.loop-left.left in
    let some : 0 < left = omega arith in
    let short : left ≤ length c.args.stmts.now = c.loop-left.invariant.short in
    record {
      short = omega arith;
      best = λ within known.
          row_before within (context_of c.args.calls.now.place) c.args.stmts.now left (left - 1)
          c.index-stmts-left.result c.stmt_paths.result c.loop-left.paths c.then-paths.result (omega arith)
          (omega arith)
          c.index-stmts-left.is (c.stmt_paths.ensures within known) (c.loop-left.invariant.best within known)
          c.then-paths.ensures;
    }

pub row_paths-returns : goal.row_paths-returns
row_paths-returns t c = λ within known.
    let done : c.loop-left.left ≡ 0 = omega arith in
    subst (λ n. AreBest c.loop-left.paths (row_paths within (context_of c.args.calls.now.place)
    (row_of (stmt_trees (drop n c.args.stmts.now))))) done (c.loop-left.invariant.best within known)

pub blocks_paths-loop-left-init : goal.blocks_paths-loop-left-init
blocks_paths-loop-left-init t c = record {
  short = omega arith;
  best = λ within known.
      subst (λ r. AreBest c.none-paths.result (block_paths within (context_of c.args.calls.now.place) r))
      (sym (at_drop_all (blocks_row within (context_of c.args.calls.now.place)) c.args.blocks.now
      (length c.args.blocks.now)
      (omega arith))) c.none-paths.ensures;
}

pub blocks_paths-loop-left-preserved : goal.blocks_paths-loop-left-preserved
blocks_paths-loop-left-preserved t c =
    let left : ℕ = c.loop-left.left in
    let some : 0 < left = omega arith in
    let short : left ≤ length c.args.blocks.now = c.loop-left.invariant.short in
    record {
      short = omega arith;
      best = λ within known.
          block_before within (context_of c.args.calls.now.place) c.args.blocks.now left (left - 1)
          c.index-blocks-left.result c.row_paths.result c.loop-left.paths c.or-paths.result (omega arith) (omega arith)
          c.index-blocks-left.is
          (subst (λ ss. AreBest c.row_paths.result (row_paths within (context_of c.args.calls.now.place)
          (row_of (stmt_trees ss)))) c.as_slice.ensures.value (c.row_paths.ensures within known))
          (c.loop-left.invariant.best within known) c.or-paths.ensures;
    }

pub blocks_paths-returns : goal.blocks_paths-returns
blocks_paths-returns t c = λ within known.
    let done : c.loop-left.left ≡ 0 = omega arith in
    subst (λ n. AreBest c.loop-left.paths (block_paths within (context_of c.args.calls.now.place)
    (blocks_row within (context_of c.args.calls.now.place) (drop n c.args.blocks.now)))) done
    (c.loop-left.invariant.best within known)

pub stmt_paths-returns-in-Assign : goal.stmt_paths-returns-in-Assign
stmt_paths-returns-in-Assign t c = λ within known.
    let at = context_of c.args.calls.now.place in
    let index = option_map expr_tree c.in-Assign.field-1 in
    let value = value_tree c.in-Assign.value in
    seen within at c.assignment.result (stmt_tree c.args.stmt.now)
    (assign c.in-Assign.target.names.items index value)
    (ap stmt_tree c.in-Assign.is ∙ view-Assign c.in-Assign.target c.in-Assign.field-1 c.in-Assign.value)
    (subst (λ (ns : List Ident). AreBest c.assignment.result (stmt_paths within at (assign ns index value)))
    c.as_slice.ensures.value (c.assignment.ensures within index known))

pub stmt_paths-returns-in-Choice : goal.stmt_paths-returns-in-Choice
stmt_paths-returns-in-Choice t c = λ within known.
    let at = context_of c.args.calls.now.place in
    seen within at c.choice_paths.result (stmt_tree c.args.stmt.now)
    (choose c.in-Choice.field-0 (blocks_row within at c.in-Choice.blocks.items))
    (ap stmt_tree c.in-Choice.is ∙ view-Choice c.in-Choice.field-0 c.in-Choice.blocks)
    (subst (λ (bs : List (Vec Stmt Global)). AreBest c.choice_paths.result (stmt_paths within at
    (choose c.in-Choice.field-0 (blocks_row within at bs)))) c.as_slice-in-Choice.ensures.value
    (c.choice_paths.ensures within c.in-Choice.field-0 known))

pub stmt_paths-returns-in-Assert : goal.stmt_paths-returns-in-Assert
stmt_paths-returns-in-Assert t c = λ within known.
    seen within (context_of c.args.calls.now.place) c.choosing.result (stmt_tree c.args.stmt.now)
    (assert c.in-Assert.field-0 (expr_tree c.in-Assert.field-1))
    (ap stmt_tree c.in-Assert.is ∙ view-Assert c.in-Assert.field-0 c.in-Assert.field-1) (c.choosing.ensures 0 refl)

pub stmt_paths-returns-in-Assume : goal.stmt_paths-returns-in-Assume
stmt_paths-returns-in-Assume t c = λ within known.
    seen within (context_of c.args.calls.now.place) c.choosing-in-Assume.result (stmt_tree c.args.stmt.now)
    (assume c.in-Assume.field-0 (expr_tree c.in-Assume.field-1))
    (ap stmt_tree c.in-Assume.is ∙ view-Assume c.in-Assume.field-0 c.in-Assume.field-1)
    (c.choosing-in-Assume.ensures 0 refl)

pub choice_paths-returns : goal.choice_paths-returns
choice_paths-returns t c = λ within at known.
    let blocks = c.args.blocks.now in
    let count = length blocks - 1 in
    let bits : c.bits_of_number-bits.result ≡ bits_of_number count =
    c.bits_of_number-bits.ensures count (omega (arith, c.saturating_sub.ensures, c.saturating_sub.type_inv)) in
    let small : c.bits_of_number-bits.result ≡ capped (bits_of_number count) =
    omega (arith, bits, c.bits_of_number-bits.type_inv) in
    subst (λ (n : ℕ). AreBest c.then.result (in_row (choosing (bits_of_number (n - 1)))
    (block_paths within (context_of c.args.calls.now.place)
    (blocks_row within (context_of c.args.calls.now.place) blocks)))) (sym (length-blocks blocks))
    (c.then.ensures _ _ (c.choosing.ensures (bits_of_number count) small) (c.blocks_paths.ensures within known))
