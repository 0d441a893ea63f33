use Rattle.std.proofs.Common.{ap, arith}
use Rattle.tm_syntax.specs.Tree.{row_of}
use Rattle.tm_syntax.specs.Tree.View.{stmt_tree, stmt_trees}
use Rattle.tm_syntax.specs.Scopes.Parts.{all_stmts}
use Rattle.tm_scope.proofs.Entries.{empty_list}
use Rattle.tm_scope.specs.Cells.{scope_of}
use Rattle.tm_atoms.specs.declared.walk.Row.TheVariants.{Stmts}
use Rattle.tm_atoms.specs.Inner.Walks.{WalkTables, tables_of}
use Rattle.tm_atoms.specs.Inner.Weights.{part_weight, row_weight, stmt_weight}
use Rattle.tm_atoms.proofs.WalkSteps.{first-split, lighter-first, part, part-some, settles-empty, settles-row}
use Rattle.tm_atoms.proofs.walk.Walk.walk_row.Goals as goal

pub returns-in_default-clause-settles : goal.returns-in_default-clause-settles
returns-in_default-clause-settles c = λ d over rank ranked.
    settles-empty d rank (tables_of c.args.self.now) (scope_of c.args.scope) _
    (ap (λ l. all_stmts (stmt_trees l)) (empty_list c.args.stmts.now (omega arith)))

pub returns-in_default-clause-lighter : goal.returns-in_default-clause-lighter
returns-in_default-clause-lighter c = λ d over. part-some d (tables_of c.args.self.now) (Stmts c.args.stmts)

pub returns-clause-settles : goal.returns-clause-settles
returns-clause-settles c = λ d over rank ranked.
    let w : WalkTables = tables_of c.args.self.now in
    let u : WalkTables = tables_of c.leave.new.self in
    let v : WalkTables = tables_of c.walk_stmt.new.self in
    settles-row d rank w u v c.args.scope c.args.stmts _ c.first-item.result
    (first-split c.args.stmts.now c.first-item.result (omega arith) c.first-item.is) c.in_ok-leave.ensures
    (c.in_ok-walk_stmt.ensures.settles d over rank ranked)

pub returns-clause-lighter : goal.returns-clause-lighter
returns-clause-lighter c = λ d over.
    let w : WalkTables = tables_of c.args.self.now in
    let u : WalkTables = tables_of c.leave.new.self in
    let v : WalkTables = tables_of c.walk_stmt.new.self in
    lighter-first d w u v (part c.args.scope (Stmts _)) (stmt_weight (stmt_tree c.first-item.result))
    (part_weight (Stmts c.args.stmts)) c.in_ok-leave.ensures
    (ap (λ l. row_weight (row_of (stmt_trees l)))
    (first-split c.args.stmts.now c.first-item.result (omega arith) c.first-item.is))
    (c.in_ok-walk_stmt.ensures.lighter d over)
