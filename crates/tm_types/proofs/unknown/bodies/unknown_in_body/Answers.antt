use Rattle.std.proofs.Common.{List, map, sym, ap, ◌∙◌}
use Rattle.std.specs.Borrow.{Bor}
use Rattle.std.specs.List.{flat_map}
use Rattle.tm_syntax.specs.declared.tree.LocalDef.{LocalDef}
use Rattle.tm_syntax.specs.declared.tree.Stmt.{Stmt}
use Rattle.tm_syntax.specs.Tree.{LocalTree, StmtTree}
use Rattle.tm_syntax.specs.Tree.View.{body_tree, local_tree, stmt_trees}
use Rattle.tm_syntax.specs.Scopes.Parts.{all_stmts}
use Rattle.tm_syntax.specs.Faults.Marks.{first_mark}
use Rattle.tm_scope.specs.Context.{context_of}
use Rattle.tm_names.specs.Parts.{listed_stmts}
use Rattle.tm_names.specs.LocalStmts.{declaration}
use Rattle.tm_types.specs.Inner.UnknownParts.{unknown_in_stmt}
use Rattle.tm_names.proofs.ListedStmts.{flat_map-stmts_in}
use Rattle.tm_types.proofs.unknown.bodies.unknown_in_body.Goals as goal

pub returns : goal.returns
returns c =
    let body = c.args.body.now in
    let unknown = unknown_in_stmt (context_of c.args.site.now) in
    let in_local = λ (l : LocalTree). unknown (declaration l) in
    c.earlier_name.ensures (flat_map in_local (map local_tree body.locals.items))
    (flat_map unknown (all_stmts (stmt_trees body.stmts.items)))
    (c.unknown_in_locals-in_locals.ensures
    ∙ ap (λ (ls : List LocalDef). first_mark (flat_map in_local (map local_tree ls))) c.as_slice-2.ensures.value)
    (c.unknown_in_listed.ensures
    ∙ ap (λ (ss : List (Bor Stmt)). first_mark (flat_map unknown (listed_stmts ss))) c.as_slice-3.ensures.value
    ∙ ap (λ (ss : List StmtTree). first_mark (flat_map unknown ss))
    (c.in-Ok.ensures ∙ ap (λ ss. all_stmts (stmt_trees ss)) c.as_slice.ensures.value))
    ∙ ap first_mark (sym (flat_map-stmts_in unknown (body_tree body)))
