use Rattle.std.proofs.Common.{◌++◌, map, sym, ap, ◌∙◌, arith}
use Rattle.std.specs.Borrow.{Bor}
use Rattle.std.specs.List.{flat_map}
use Rattle.tm_syntax.specs.declared.tree.Stmt.{Stmt}
use Rattle.tm_syntax.specs.Tree.View.{body_tree, local_tree, stmt_tree, stmt_trees}
use Rattle.tm_syntax.specs.Scopes.Parts.{all_stmts}
use Rattle.tm_scope.specs.Marks.{is_marked}
use Rattle.tm_types.specs.Firsts.{first_of}
use Rattle.tm_types.specs.Inner.Crossings.{loops_of}
use Rattle.tm_names.proofs.ListedStmts.{flat_map-none, flat_map-stmts_in}
use Rattle.tm_types.proofs.FoundPlaces.{found_listed, found_more}
use Rattle.tm_types.proofs.crossings.loops.first_loop.Goals as goal

pub loop-stmt-preserved : goal.loop-stmt-preserved
loop-stmt-preserved c =
    found_more (loops_of (is_marked c.args.calls.now)) (λ (s : Bor Stmt). stmt_tree s.now)
    c.as_slice-stmt-items.result.now c.loop-stmt.stmt-index c.stmt-item.result (omega arith) c.stmt-item.is
    c.loop_fault.ensures c.earlier_place-first.ensures.earlier c.loop-stmt.invariant

pub returns : goal.returns
returns c =
    let loops = loops_of (is_marked c.args.calls.now) in
    let body = c.args.body.now in
    found_listed loops (λ (s : Bor Stmt). stmt_tree s.now) c.as_slice-stmt-items.result.now
    c.in-Ok.given.items _ c.loop-stmt.stmt-index c.as_slice-stmt-items.ensures.value c.in-Ok.ensures
    (omega arith) c.loop-stmt.invariant
    ∙ ap (λ ss. first_of (flat_map loops (all_stmts (stmt_trees ss)))) c.as_slice.ensures.value
    ∙ ap (λ xs. first_of (xs ++ flat_map loops (all_stmts (stmt_trees body.stmts.items))))
    (sym (flat_map-none (map local_tree body.locals.items)))
    ∙ ap first_of (sym (flat_map-stmts_in loops (body_tree body)))
