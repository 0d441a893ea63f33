use Rattle.std.proofs.Common.{refl, ap, arith}
use Rattle.tm_syntax.specs.Tree.{row_of}
use Rattle.tm_syntax.specs.Tree.View.{stmt_tree, stmt_trees}
use Rattle.tm_scope.proofs.Entries.{empty_list}
use Rattle.tm_locations.proofs.WalkParts.{first-split}
use Rattle.tm_flat_bodies.specs.declared.waiting.Row.TheVariants as rows
use Rattle.tm_flat_bodies.specs.Inner.Places.{stack}
use Rattle.tm_flat_bodies.specs.Tables.{known_by}
use Rattle.tm_flat_bodies.proofs.Beginning.{first_steps_on, first_walks_on, nothing_left}
use Rattle.tm_flat_bodies.proofs.Stepping.{if_ok}
use Rattle.tm_flat_bodies.proofs.walker.Walker.first_stmt.Goals as goal

pub returns-in_default : goal.returns-in_default
returns-in_default c = λ start at.
    nothing_left (known_by c.args.self.now) start c.args.stand.now (rows.Stmts c.args.stmts) c.args.course.now
    c.args.flow (stack c.args.waiting.now)
    (ap (λ ss. row_of (stmt_trees ss)) (empty_list c.args.stmts.now (omega arith))) c.requires

pub walk-requires : goal.walk-requires
walk-requires c =
    first_walks_on (known_by c.args.self.now) c.args.stand.now (row_of (stmt_trees c.args.stmts.now)) _
    (stmt_tree c.first-item.result) c.args.course.now c.args.flow
    (ap (λ ss. row_of (stmt_trees ss))
    (first-split c.args.stmts.now c.first-item.result (omega arith) c.first-item.is)) c.requires

pub returns : goal.returns
returns c = λ start at.
    if_ok c.walk.result
    (λ here step.
    first_steps_on (known_by c.args.self.now) start c.args.spot c.args.stand.now at (rows.Stmts c.args.stmts)
    (rows.Stmts _) (stmt_tree c.first-item.result) c.args.course.now c.args.flow
    (ap (λ ss. row_of (stmt_trees ss))
    (first-split c.args.stmts.now c.first-item.result (omega arith) c.first-item.is)) c.requires
    (stack c.args.waiting.now) _ (stack c.walk.new.waiting) c.walk.new.course here c.in_ok-leave.ensures refl refl step)
    (c.walk.ensures start at)
