use Rattle.std.proofs.Common.{arith}
use Rattle.tm_locations.specs.Inner.Walks.{WalkTables, part_locations, tables_of}
use Rattle.tm_locations.specs.declared.walk.Row.TheVariants.{Stmts}
use Rattle.tm_locations.proofs.WalkSteps.{settles-left, settles-two}
use Rattle.tm_locations.proofs.WalkWeights.{weight-left}
use Rattle.tm_locations.proofs.walk.Walk.walk_branches.Goals as goal

pub returns-clause-settles : goal.returns-clause-settles
returns-clause-settles c = λ d.
    let w : WalkTables = tables_of c.args.self.now in
    let u : WalkTables = tables_of c.leave.new.self in
    let v : WalkTables = tables_of c.leave-2.new.self in
    settles-two d w u v c.args.frame (Stmts c.args.second) c.args.after
    (part_locations d c.args.frame (Stmts c.args.first)) c.in_ok-leave.ensures
    (settles-left d u v c.args.frame (Stmts c.args.first) c.args.after c.in_ok-leave-2.ensures)

pub returns-clause-weight : goal.returns-clause-weight
returns-clause-weight c = λ d.
    let w : WalkTables = tables_of c.args.self.now in
    let u : WalkTables = tables_of c.leave.new.self in
    let v : WalkTables = tables_of c.leave-2.new.self in
    let one = weight-left d w u c.args.frame (Stmts c.args.second) c.args.after c.in_ok-leave.ensures in
    let two = weight-left d u v c.args.frame (Stmts c.args.first) c.args.after c.in_ok-leave-2.ensures in
    omega (arith, one, two)
