use Rattle.std.proofs.Common.{List, [], ◌∷◌, ◌++◌, map, sym, ap, ◌∙◌}
use Rattle.std.specs.Prelude.{None}
use Rattle.std.specs.List.{flat_map}
use Rattle.std.specs.Option.{option_map}
use Rattle.tm_syntax.specs.declared.tree.Ident.{Ident}
use Rattle.tm_syntax.specs.Tree.{LocalTree, assign, row_of}
use Rattle.tm_syntax.specs.Tree.View.{expr_tree, local_tree, stmt_trees}
use Rattle.tm_syntax.specs.Scopes.Parts.{row_stmts}
use Rattle.tm_limits.specs.LongNames.{answer_names, first_long, own_names}
use Rattle.tm_limits.proofs.LongNames.{body_names-parts, long_joined}
use Rattle.tm_limits.proofs.names.bodies.body_long.Goals as goal

pub returns : goal.returns
returns c =
    let sought = c.args.sought in
    let ls = c.args.body.now.locals.items in
    let ss = c.args.body.now.stmts.items in
    let locals : List Ident =
    flat_map (own_names sought) (map (λ (l : LocalTree). assign (l.name ∷ []) None l.value) (map local_tree ls)) in
    let stmts : List Ident = flat_map (own_names sought) (row_stmts (row_of (stmt_trees ss))) in
    long_joined _ _ _ (locals ++ stmts) (answer_names sought (option_map expr_tree c.args.body.now.answer))
    c.earlier.ensures
    (long_joined _ _ _ locals stmts c.earlier-stmts.ensures
    (c.locals_long-locals.ensures ∙ ap (λ ls. first_long (flat_map (own_names sought)
    (map (λ (l : LocalTree). assign (l.name ∷ []) None l.value) (map local_tree ls)))) c.as_slice.ensures.value)
    (c.row_long.ensures ∙ ap (λ ss. first_long (flat_map (own_names sought) (row_stmts (row_of (stmt_trees ss)))))
    c.as_slice-2.ensures.value))
    c.answer_long.ensures
    ∙ ap (λ ns. first_long (ns ++ answer_names sought (option_map expr_tree c.args.body.now.answer)))
    (sym (body_names-parts sought ls ss))
