use Rattle.std.proofs.Common.{◌∷◌, ap, subst, sym, arith}
use Rattle.tm_syntax.specs.Tree.View.{stmt_tree, stmt_trees}
use Rattle.tm_scope.proofs.Entries.{empty_list}
use Rattle.tm_locations.proofs.WalkParts.{first-split}
use Rattle.tm_plain_bodies.specs.Frames.{RowFits, StmtFits}
use Rattle.tm_plain_bodies.specs.Inner.Owed.{frame_of, level_of, one, owed}
use Rattle.tm_plain_bodies.specs.Inner.Steps.{Steps}
use Rattle.tm_plain_bodies.proofs.Fits.{head_fits}
use Rattle.tm_plain_bodies.proofs.Stepping.{first_steps, row_ended}
use Rattle.tm_plain_bodies.proofs.runner.Runner.step_row.Goals as goal

pub returns-in_default : goal.returns-in_default
returns-in_default c =
    row_ended c.args.self.now c.args.level (stmt_trees c.args.stmts.now) (owed c.args.todo.now.items)
    c.args.course.now (ap stmt_trees (empty_list c.args.stmts.now (omega arith)))

pub frame_here-frame-requires : goal.frame_here-frame-requires
frame_here-frame-requires c = (c.requires.promised.context, c.requires.promised.stands)

pub perform-requires : goal.perform-requires
perform-requires c =
    let d = c.args.self.now in
    let split = ap stmt_trees (first-split c.args.stmts.now c.first-item.result (omega arith) c.first-item.is) in
    subst (λ f. StmtFits d f (stmt_tree c.first-item.result)) (sym c.frame_here-frame.ensures)
    (head_fits d (frame_of d c.args.level) (stmt_tree c.first-item.result) _
    (subst (RowFits d (frame_of d c.args.level)) split c.requires))

pub returns : goal.returns
returns c =
    let d = c.args.self.now in
    let level = c.args.level in
    let split = ap stmt_trees (first-split c.args.stmts.now c.first-item.result (omega arith) c.first-item.is) in
    first_steps d level (stmt_tree c.first-item.result) _ (owed c.args.todo.now.items) (stmt_trees c.args.stmts.now)
    split (owed c.push.new.todo.items) _ c.in_ok-push.ensures c.args.course.now c.perform.new.course c.perform.result
    c.requires
    (subst (λ f. Steps d (one (level_of f) (stmt_tree c.first-item.result) ∷ owed c.push.new.todo.items)
    (owed c.perform.new.todo.items) c.args.course.now c.perform.new.course c.perform.result) c.frame_here-frame.ensures
    c.perform.ensures)
