use Rattle.std.proofs.Common.{◌++◌, ◌∷◌, [], List, None, map, ap, ◌∙◌, subst}
use Rattle.tm_syntax.specs.declared.tree.LocalDef.{LocalDef}
use Rattle.tm_syntax.specs.Tree.{StmtTree, assign}
use Rattle.tm_syntax.specs.Tree.View.{local_tree, stmt_trees}
use Rattle.tm_syntax.specs.Design.Scope.{Scope}
use Rattle.tm_syntax.specs.Design.Work.{perform}
use Rattle.tm_scope.specs.Cells.{scope_of}
use Rattle.tm_locations.specs.Inner.Walks.{WalkTables, tables_of}
use Rattle.tm_locations.specs.Locations.{IsRest, no_call, nothing_left}
use Rattle.tm_locations.proofs.WalkSteps.{items-body}
use Rattle.tm_locations.proofs.walk.Walk.start_of.Goals as goal

-- locals, as statements
abbrev assigned : List LocalDef → List StmtTree
assigned ls = map (λ l. assign (l.name ∷ []) None l.value) (map local_tree ls)

pub returns-clause-start : goal.returns-clause-start
returns-clause-start c =
    let v : WalkTables = tables_of c.rest-2.new.self in
    let scope : Scope = scope_of c.args.scope in
    let locals = c.as_slice-2.result.now in
    let stmts = c.as_slice.result.now in
    let rest = c.in_ok-stmts.ensures.work [] [] no_call nothing_left in
    subst (λ items. IsRest v.trails v.rests c.in_ok-start.start items)
    (items-body scope (assigned locals) (stmt_trees stmts)
    ∙ ap (λ ls. map (perform scope []) (assigned ls ++ stmt_trees stmts)) c.as_slice-2.ensures.value
    ∙ ap (λ ss. map (perform scope []) (assigned c.args.body.now.locals.items ++ stmt_trees ss))
    c.as_slice.ensures.value)
    (c.in_ok-start.ensures.work [] (map (perform scope []) (stmt_trees stmts) ++ []) no_call rest)
