use Rattle.std.proofs.Common.{◌∷◌, []}
use Rattle.tm_syntax.specs.Tree.{assume}
use Rattle.tm_syntax.specs.Tree.View.{expr_tree}
use Rattle.tm_syntax.specs.Design.Work.{perform}
use Rattle.tm_scope.specs.Cells.{scope_of}
use Rattle.std.proofs.Common.{false}
use Rattle.tm_locations.specs.Inner.Walks.{WalkTables, tables_of}
use Rattle.tm_locations.proofs.WalkSteps.{settles-behind, settles-note}
use Rattle.tm_locations.proofs.walk.Walk.note_wait.Goals as goal

pub returns-clause-settles : goal.returns-clause-settles
returns-clause-settles c = λ d.
    let w : WalkTables = tables_of c.args.self.now in
    let u : WalkTables = tables_of c.rest.new.self in
    let v : WalkTables = tables_of c.note.new.self in
    let frame = c.args.frame in
    settles-behind d w u v frame c.args.after c.in_ok-rest.rest
    (λ trail items. perform (scope_of frame.scope) trail (assume c.args.at (expr_tree c.args.e.now)) ∷ items)
    (λ trail items. record { at = c.args.at; trail = trail; is_magic = false; rest = items } ∷ [])
    c.in_ok-rest.ensures.grown c.in_ok-rest.ensures.work
    (settles-note d u v frame c.in_ok-rest.rest c.args.at false c.in_ok-note.ensures)
