use Rattle.std.proofs.Common.{arith}
use Rattle.tm_scope.proofs.Entries.{empty_list}
use Rattle.tm_locations.specs.Inner.Walks.{WalkTables, tables_of}
use Rattle.tm_locations.proofs.WalkParts.{first-split, lighter-blocks, lighter-no_blocks, settles-blocks, settles-no_blocks}
use Rattle.tm_locations.proofs.walk.Walk.walk_blocks.Goals as goal

pub returns-in_default-clause-settles : goal.returns-in_default-clause-settles
returns-in_default-clause-settles c = λ d.
    settles-no_blocks d c.args.frame (tables_of c.args.self.now) c.args.after c.args.blocks
    (empty_list c.args.blocks.now (omega arith))

pub returns-in_default-clause-lighter : goal.returns-in_default-clause-lighter
returns-in_default-clause-lighter c = λ d.
    lighter-no_blocks d c.args.frame (tables_of c.args.self.now) c.args.after c.args.blocks
    (empty_list c.args.blocks.now (omega arith))

pub returns-clause-settles : goal.returns-clause-settles
returns-clause-settles c = λ d.
    let w : WalkTables = tables_of c.args.self.now in
    let u : WalkTables = tables_of c.leave.new.self in
    let v : WalkTables = tables_of c.leave-2.new.self in
    settles-blocks d c.args.frame w u v c.args.after c.args.blocks _ c.first-item.result c.as_slice.result
    c.in_ok-leave.ensures (first-split c.args.blocks.now c.first-item.result (omega arith) c.first-item.is)
    c.as_slice.ensures.value c.in_ok-leave-2.ensures

pub returns-clause-lighter : goal.returns-clause-lighter
returns-clause-lighter c = λ d.
    let w : WalkTables = tables_of c.args.self.now in
    let u : WalkTables = tables_of c.leave.new.self in
    let v : WalkTables = tables_of c.leave-2.new.self in
    lighter-blocks d c.args.frame w u v c.args.after c.args.blocks _ c.first-item.result c.as_slice.result
    c.in_ok-leave.ensures (first-split c.args.blocks.now c.first-item.result (omega arith) c.first-item.is)
    c.as_slice.ensures.value c.in_ok-leave-2.ensures
