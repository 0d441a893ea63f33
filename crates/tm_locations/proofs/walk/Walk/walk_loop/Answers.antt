use Rattle.std.proofs.Common.{◌+◌, List, ◌++◌, ◌∷◌, map, ap, ◌∙◌, subst}
use Rattle.tm_syntax.specs.declared.tree.Stmt.{Stmt}
use Rattle.tm_syntax.specs.Tree.View.{stmt_tree, stmt_trees}
use Rattle.tm_syntax.specs.Design.Work.{perform}
use Rattle.tm_scope.specs.Cells.{scope_of}
use Rattle.tm_locations.specs.Inner.Walks.{WalkTables, IsWork, part_locations, tables_of}
use Rattle.tm_locations.specs.Inner.Weights.{part_weight, weight}
use Rattle.tm_locations.specs.declared.walk.Row.TheVariants.{Stmts}
use Rattle.tm_locations.proofs.WalkSteps.{settles-behind, settles-left}
use Rattle.tm_locations.proofs.WalkWeights.{weight-left}
use Rattle.tm_locations.proofs.walk.Walk.walk_loop.Goals as goal

pub returns-clause-settles : goal.returns-clause-settles
returns-clause-settles c = λ d.
    let w : WalkTables = tables_of c.args.self.now in
    let u : WalkTables = tables_of c.rest.new.self in
    let v : WalkTables = tables_of c.leave.new.self in
    let frame = c.args.frame in
    let number = c.in_ok-again.again in
    let work : IsWork w u frame c.args.after number (λ trail items.
    perform (scope_of frame.scope) trail (stmt_tree c.args.stmt.now) ∷ items) =
    subst (λ (l : List Stmt). IsWork w u frame c.args.after number (λ trail items.
    map (perform (scope_of frame.scope) trail) (stmt_trees l) ++ items)) c.from_ref.ensures.value
    c.in_ok-again.ensures.work in
    settles-behind d w u v frame c.args.after number
    (λ trail items. perform (scope_of frame.scope) trail (stmt_tree c.args.stmt.now) ∷ items)
    (part_locations d frame (Stmts c.args.body)) c.in_ok-again.ensures.grown work
    (settles-left d u v frame (Stmts c.args.body) number c.in_ok-leave.ensures)

pub returns-clause-weight : goal.returns-clause-weight
returns-clause-weight c = λ d.
    let w : WalkTables = tables_of c.args.self.now in
    let u : WalkTables = tables_of c.rest.new.self in
    let v : WalkTables = tables_of c.leave.new.self in
    weight-left d u v c.args.frame (Stmts c.args.body) c.in_ok-again.again c.in_ok-leave.ensures
    ∙ ap (λ todo. weight d todo + part_weight d c.args.frame (Stmts c.args.body)) c.in_ok-again.ensures.grown.todo
