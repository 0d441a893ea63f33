use Rattle.std.proofs.Common.{List, [], ◌++◌, map, sym, ap, ◌∙◌}
use Rattle.std.specs.Borrow.{Bor}
use Rattle.std.specs.List.{flat_map}
use Rattle.std.specs.Option.{option_map}
use Rattle.std.proofs.lemmas.List.Folds.{flat_map-map}
use Rattle.tm_syntax.specs.declared.tree.LocalDef.{LocalDef}
use Rattle.tm_syntax.specs.declared.tree.Stmt.{Stmt}
use Rattle.tm_syntax.specs.Tree.{LocalTree}
use Rattle.tm_syntax.specs.Tree.View.{body_tree, expr_tree, local_tree, stmt_tree, stmt_trees}
use Rattle.tm_syntax.specs.Scopes.Parts.{Asked, all_stmts, stmt_exprs}
use Rattle.tm_scope.specs.Context.{context_of}
use Rattle.tm_names.specs.Asked.{all_asked}
use Rattle.tm_names.specs.Inner.BodyLists.{asked_answer}
use Rattle.tm_names.specs.LocalStmts.{declaration}
use Rattle.tm_names.proofs.ListSteps.{three_more}
use Rattle.tm_names.proofs.ListedStmts.{flat_map-stmts_in}
use Rattle.tm_names.proofs.parts.bodies.body_exprs.Goals as goal

pub returns : goal.returns
returns c =
    let body = c.args.part.now.body.now in
    let at = context_of c.args.part.now.site in
    let of_locals : List LocalDef → List Asked = λ ls.
    flat_map (λ (l : LocalDef). stmt_exprs at (declaration (local_tree l))) ls in
    let of_stmts : List (Bor Stmt) → List Asked = λ ss.
    flat_map (λ (s : Bor Stmt). stmt_exprs at (stmt_tree s.now)) ss in
    let one = all_asked c.push_locals.new.asked.items in
    let two = all_asked c.push_stmts.new.asked.items in
    let three = all_asked c.push_answer.new.asked.items in
    three_more [] (flat_map (λ (l : LocalTree). stmt_exprs at (declaration l)) (map local_tree body.locals.items))
    (flat_map (stmt_exprs at) (all_stmts (stmt_trees body.stmts.items)))
    (asked_answer at (option_map expr_tree body.answer)) one two three
    (c.in_ok-push_locals.ensures
    ∙ ap (λ xs. all_asked xs ++ of_locals c.as_slice-2.result.now) c.new-asked.ensures.items
    ∙ ap of_locals c.as_slice-2.ensures.value
    ∙ sym (flat_map-map (λ (l : LocalTree). stmt_exprs at (declaration l)) local_tree body.locals.items))
    (c.in_ok-push_stmts.ensures
    ∙ ap (λ ss. one ++ of_stmts ss) c.as_slice-3.ensures.value
    ∙ ap (λ xs. one ++ xs)
    (sym (flat_map-map (stmt_exprs at) (λ (s : Bor Stmt). stmt_tree s.now) c.in_ok-stmts.stmts.items)
    ∙ ap (flat_map (stmt_exprs at)) (c.in_ok-stmts.ensures
    ∙ ap (λ ss. all_stmts (stmt_trees ss)) c.as_slice.ensures.value)))
    c.in_ok-push_answer.ensures
    ∙ ap (λ xs. xs ++ asked_answer at (option_map expr_tree body.answer))
    (sym (flat_map-stmts_in (stmt_exprs at) (body_tree body)))
