use Rattle.std.proofs.Common.{arith}
use Rattle.tm_scope.proofs.Entries.{empty_list}
use Rattle.tm_locations.specs.Inner.Walks.{WalkTables, tables_of}
use Rattle.tm_locations.proofs.WalkParts.{first-split, lighter-no_row, lighter-row, settles-no_row, settles-row}
use Rattle.tm_locations.proofs.walk.Walk.walk_row.Goals as goal

pub returns-in_default-clause-settles : goal.returns-in_default-clause-settles
returns-in_default-clause-settles c = λ d over by_text.
    settles-no_row d c.args.frame (tables_of c.args.self.now) c.args.after c.args.stmts
    (empty_list c.args.stmts.now (omega arith))

pub returns-in_default-clause-lighter : goal.returns-in_default-clause-lighter
returns-in_default-clause-lighter c = λ d over.
    lighter-no_row d c.args.frame (tables_of c.args.self.now) c.args.after c.args.stmts
    (empty_list c.args.stmts.now (omega arith))

pub returns-clause-settles : goal.returns-clause-settles
returns-clause-settles c = λ d over by_text.
    let w : WalkTables = tables_of c.args.self.now in
    let u : WalkTables = tables_of c.leave.new.self in
    let x : WalkTables = tables_of c.rest_of_row.new.self in
    let v : WalkTables = tables_of c.walk_stmt.new.self in
    settles-row d c.args.frame w u x v c.args.after c.in_ok-behind.behind c.args.stmts _ c.first-item.result
    c.in_ok-leave.ensures (first-split c.args.stmts.now c.first-item.result (omega arith) c.first-item.is)
    c.in_ok-behind.ensures.grown c.in_ok-behind.ensures.work (c.in_ok-walk_stmt.ensures.settles d over by_text)

pub returns-clause-lighter : goal.returns-clause-lighter
returns-clause-lighter c = λ d over.
    let w : WalkTables = tables_of c.args.self.now in
    let u : WalkTables = tables_of c.leave.new.self in
    let x : WalkTables = tables_of c.rest_of_row.new.self in
    let v : WalkTables = tables_of c.walk_stmt.new.self in
    lighter-row d c.args.frame w u x v c.args.after c.in_ok-behind.behind c.args.stmts _ c.first-item.result
    c.in_ok-leave.ensures (first-split c.args.stmts.now c.first-item.result (omega arith) c.first-item.is)
    c.in_ok-behind.ensures.grown (c.in_ok-walk_stmt.ensures.lighter d over)
