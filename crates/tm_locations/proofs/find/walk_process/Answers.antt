use Rattle.std.proofs.Common.{◌≡◌, ℕ, suc, [], map, sym, subst}
use Rattle.std.proofs.lemmas.Result.{IfOk-weaker}
use Rattle.std.specs.List.{AllZip}
use Rattle.tm_syntax.specs.Tree.View.{body_tree}
use Rattle.tm_syntax.specs.Scopes.Parts.{body_stmts}
use Rattle.tm_syntax.specs.Design.Locations.{body_locations}
use Rattle.tm_syntax.specs.Design.Work.{perform}
use Rattle.tm_scope.specs.Cells.{scope_of}
use Rattle.tm_locations.specs.Inner.Walks.{WalkTables, tables_of}
use Rattle.tm_locations.specs.Locations.{IsRest, IsRow, LocationTable, table_of}
use Rattle.tm_locations.specs.declared.table.Locations.{Locations}
use Rattle.tm_locations.proofs.WalkTables.{rows-stay}
use Rattle.tm_locations.proofs.find.walk_process.Goals as goal

-- the table that a walk ends in
abbrev table : WalkTables → ℕ → LocationTable
table w start = record { rows = w.rows; rests = w.rests; trails = w.trails; start = start }

pub returns-clause-rows : goal.returns-clause-rows
returns-clause-rows c =
    let u : WalkTables = tables_of c.run.new.self in
    let v : WalkTables = tables_of c.start_of.new.self in
    IfOk-weaker c.into_table.result (λ (t : Locations). table_of t ≡ table v c.in-Ok-start_of.given) _
    (λ t is d over by_text deep.
    let body = body_tree c.args.at.now.process.now.body in
    let all = body_locations (suc c.args.depth) d (scope_of c.args.at.now.scope) [] body [] in
    subst (λ (t : LocationTable). AllZip (IsRow t.trails t.rests) t.rows all) (sym is)
    (rows-stay u v c.in-Ok-start_of.ensures.grown all
    (c.in-Ok-run.ensures d over by_text all (c.in-Ok.ensures d deep)))) c.into_table.ensures

pub returns-clause-start : goal.returns-clause-start
returns-clause-start c =
    let v : WalkTables = tables_of c.start_of.new.self in
    IfOk-weaker c.into_table.result (λ (t : Locations). table_of t ≡ table v c.in-Ok-start_of.given) _
    (λ t is. subst (λ (t : LocationTable). IsRest t.trails t.rests t.start
    (map (perform (scope_of c.args.at.now.scope) []) (body_stmts (body_tree c.args.at.now.process.now.body)))) (sym is)
    c.in-Ok-start_of.ensures.start) c.into_table.ensures
