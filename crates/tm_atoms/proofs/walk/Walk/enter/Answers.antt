use Rattle.tm_atoms.specs.Inner.Walks.{WalkTables, tables_of}
use Rattle.tm_atoms.proofs.WalkSteps.{settles-body, weight-body}
use Rattle.tm_atoms.proofs.walk.Walk.enter.Goals as goal

pub returns-clause-settles : goal.returns-clause-settles
returns-clause-settles c = λ d rank.
    let w : WalkTables = tables_of c.args.self.now in
    let u : WalkTables = tables_of c.leave.new.self in
    let v : WalkTables = tables_of c.leave-2.new.self in
    let body = c.args.body.now in
    settles-body d rank w u v c.args.scope body.locals.items body.stmts.items c.as_slice-2.result c.as_slice.result
    c.as_slice-2.ensures.value c.as_slice.ensures.value c.in_ok-leave.ensures c.in_ok-leave-2.ensures

pub returns-clause-weight : goal.returns-clause-weight
returns-clause-weight c = λ d.
    let w : WalkTables = tables_of c.args.self.now in
    let u : WalkTables = tables_of c.leave.new.self in
    let v : WalkTables = tables_of c.leave-2.new.self in
    let body = c.args.body.now in
    weight-body d w u v c.args.scope body.locals.items body.stmts.items c.as_slice-2.result c.as_slice.result
    c.as_slice-2.ensures.value c.as_slice.ensures.value c.in_ok-leave.ensures c.in_ok-leave-2.ensures
