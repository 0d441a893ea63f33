use Rattle.std.proofs.Common.{ap, arith}
use Rattle.std.specs.List.{flat_map}
use Rattle.std.specs.declared.alloc.Global.{Global}
use Rattle.std.specs.declared.vec.Vec.{Vec}
use Rattle.tm_syntax.specs.declared.tree.Stmt.{Stmt}
use Rattle.tm_syntax.specs.Tree.View.{stmt_trees}
use Rattle.tm_syntax.specs.Scopes.Parts.{all_stmts}
use Rattle.tm_scope.proofs.Entries.{empty_list}
use Rattle.tm_scope.specs.Cells.{scope_of}
use Rattle.tm_atoms.specs.declared.walk.Row.TheVariants.{Blocks}
use Rattle.tm_atoms.specs.Inner.Walks.{WalkTables, tables_of}
use Rattle.tm_atoms.proofs.WalkSteps.{first-split, lighter-blocks, part-some, settles-blocks, settles-empty}
use Rattle.tm_atoms.proofs.walk.Walk.walk_blocks.Goals as goal

pub returns-in_default-clause-settles : goal.returns-in_default-clause-settles
returns-in_default-clause-settles c = λ d rank.
    settles-empty d rank (tables_of c.args.self.now) (scope_of c.args.scope) _
    (ap (flat_map (λ (b : Vec Stmt Global). all_stmts (stmt_trees b.items)))
    (empty_list c.args.blocks.now (omega arith)))

pub returns-in_default-clause-lighter : goal.returns-in_default-clause-lighter
returns-in_default-clause-lighter c = λ d. part-some d (tables_of c.args.self.now) (Blocks c.args.blocks)

pub returns-clause-settles : goal.returns-clause-settles
returns-clause-settles c = λ d rank.
    let w : WalkTables = tables_of c.args.self.now in
    let u : WalkTables = tables_of c.leave.new.self in
    let v : WalkTables = tables_of c.leave-2.new.self in
    settles-blocks d rank w u v c.args.scope c.args.blocks _ c.first-item.result c.as_slice.result
    (first-split c.args.blocks.now c.first-item.result (omega arith) c.first-item.is) c.as_slice.ensures.value
    c.in_ok-leave.ensures c.in_ok-leave-2.ensures

pub returns-clause-lighter : goal.returns-clause-lighter
returns-clause-lighter c = λ d.
    let w : WalkTables = tables_of c.args.self.now in
    let u : WalkTables = tables_of c.leave.new.self in
    let v : WalkTables = tables_of c.leave-2.new.self in
    lighter-blocks d w u v c.args.scope c.args.blocks _ c.first-item.result c.as_slice.result
    (first-split c.args.blocks.now c.first-item.result (omega arith) c.first-item.is) c.as_slice.ensures.value
    c.in_ok-leave.ensures c.in_ok-leave-2.ensures
