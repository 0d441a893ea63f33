use Rattle.std.proofs.Common.{refl}
use Rattle.tm_syntax.specs.Tree.View.{expr_tree}
use Rattle.tm_scope.specs.Cells.{scope_of}
use Rattle.tm_atoms.specs.declared.walk.Row.TheVariants.{Stmts}
use Rattle.tm_atoms.specs.Inner.Walks.{WalkTables, tables_of}
use Rattle.tm_atoms.specs.Inner.Weights.{part_weight}
use Rattle.tm_atoms.proofs.WalkSteps.{lighter-branches, part, settles-branches, settles-condition, weight-same}
use Rattle.tm_atoms.proofs.walk.Walk.walk_branches.Goals as goal

pub returns-clause-settles : goal.returns-clause-settles
returns-clause-settles c = λ d over rank s conditions calls.
    let w : WalkTables = tables_of c.args.self.now in
    let u : WalkTables = tables_of c.leave.new.self in
    let v : WalkTables = tables_of c.leave-2.new.self in
    let x : WalkTables = tables_of c.note_condition.new.self in
    settles-branches d rank w u v x c.args.scope s c.args.first c.args.second c.in_ok-leave.ensures
    c.in_ok-leave-2.ensures
    (settles-condition d rank c.args.bodies.now over v x (scope_of c.args.scope) s (expr_tree c.args.e.now) conditions
    calls c.in_ok-note_condition.ensures)

pub returns-clause-lighter : goal.returns-clause-lighter
returns-clause-lighter c = λ d.
    let w : WalkTables = tables_of c.args.self.now in
    let u : WalkTables = tables_of c.leave.new.self in
    let v : WalkTables = tables_of c.leave-2.new.self in
    let x : WalkTables = tables_of c.note_condition.new.self in
    lighter-branches d w u v x (part c.args.scope (Stmts c.args.second)) (part c.args.scope (Stmts c.args.first))
    (part_weight (Stmts c.args.first)) (part_weight (Stmts c.args.second)) c.in_ok-leave.ensures
    c.in_ok-leave-2.ensures refl refl
    (weight-same d v x c.in_ok-note_condition.ensures.entered c.in_ok-note_condition.ensures.todo)
