use Rattle.std.proofs.Common.{refl}
use Rattle.tm_syntax.specs.Tree.View.{expr_tree}
use Rattle.tm_scope.specs.Cells.{scope_of}
use Rattle.tm_atoms.specs.declared.walk.Row.TheVariants.{Stmts}
use Rattle.tm_atoms.specs.Inner.Walks.{WalkTables, tables_of}
use Rattle.tm_atoms.specs.Inner.Weights.{part_weight}
use Rattle.tm_atoms.proofs.WalkSteps.{lighter-held, part, settles-condition, settles-held, weight-same}
use Rattle.tm_atoms.proofs.walk.Walk.walk_loop.Goals as goal

pub returns-clause-settles : goal.returns-clause-settles
returns-clause-settles c = λ d over rank s conditions calls.
    let w : WalkTables = tables_of c.args.self.now in
    let u : WalkTables = tables_of c.leave.new.self in
    let v : WalkTables = tables_of c.note_condition.new.self in
    settles-held d rank w u v c.args.scope s c.args.body c.in_ok-leave.ensures
    (settles-condition d rank c.args.bodies.now over u v (scope_of c.args.scope) s (expr_tree c.args.e.now) conditions
    calls c.in_ok-note_condition.ensures)

pub returns-clause-lighter : goal.returns-clause-lighter
returns-clause-lighter c = λ d.
    let w : WalkTables = tables_of c.args.self.now in
    let u : WalkTables = tables_of c.leave.new.self in
    let v : WalkTables = tables_of c.note_condition.new.self in
    lighter-held d w u v (part c.args.scope (Stmts c.args.body)) (part_weight (Stmts c.args.body)) c.in_ok-leave.ensures
    refl (weight-same d u v c.in_ok-note_condition.ensures.entered c.in_ok-note_condition.ensures.todo)
