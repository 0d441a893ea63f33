use Rattle.std.proofs.Common.{None, ◌∷◌, map, ap, subst, sym, arith}
use Rattle.tm_syntax.specs.Tree.{assign}
use Rattle.tm_syntax.specs.Tree.View.{local_tree, value_tree}
use Rattle.tm_scope.proofs.Entries.{empty_list}
use Rattle.tm_locations.proofs.WalkParts.{first-split}
use Rattle.tm_plain_bodies.specs.Frames.{RowFits, StmtFits, local_stmt, local_stmts}
use Rattle.tm_plain_bodies.specs.Inner.Owed.{frame_of, level_of, one, owed}
use Rattle.tm_plain_bodies.specs.Inner.Steps.{Steps}
use Rattle.tm_plain_bodies.proofs.Fits.{head_fits}
use Rattle.tm_plain_bodies.proofs.Stepping.{first_steps, row_ended}
use Rattle.tm_plain_bodies.proofs.runner.Runner.step_locals.Goals as goal

pub returns-in_default : goal.returns-in_default
returns-in_default c =
    row_ended c.args.self.now c.args.level (local_stmts (map local_tree c.args.locals.now))
    (owed c.args.todo.now.items) c.args.course.now
    (ap (λ ls. local_stmts (map local_tree ls)) (empty_list c.args.locals.now (omega arith)))

pub frame_here-frame-requires : goal.frame_here-frame-requires
frame_here-frame-requires c = (c.requires.promised.context, c.requires.promised.stands)

pub assign-requires : goal.assign-requires
assign-requires c =
    let d = c.args.self.now in
    let x = c.first-item.result in
    let split = ap (λ ls. local_stmts (map local_tree ls))
    (first-split c.args.locals.now x (omega arith) c.first-item.is) in
    subst (λ f. StmtFits d f (assign c.from_ref.result.now None (value_tree x.value))) (sym c.frame_here-frame.ensures)
    (subst (λ names. StmtFits d (frame_of d c.args.level) (assign names None (value_tree x.value)))
    (sym c.from_ref.ensures.value)
    (head_fits d (frame_of d c.args.level) (local_stmt (local_tree x)) _
    (subst (RowFits d (frame_of d c.args.level)) split c.requires)))

pub returns : goal.returns
returns c =
    let d = c.args.self.now in
    let level = c.args.level in
    let x = c.first-item.result in
    let split = ap (λ ls. local_stmts (map local_tree ls))
    (first-split c.args.locals.now x (omega arith) c.first-item.is) in
    first_steps d level (local_stmt (local_tree x)) _ (owed c.args.todo.now.items)
    (local_stmts (map local_tree c.args.locals.now)) split (owed c.push.new.todo.items) _ c.in_ok-push.ensures
    c.args.course.now c.assign.new.course c.assign.result c.requires
    (subst (λ names. Steps d (one level (assign names None (value_tree x.value)) ∷ owed c.push.new.todo.items)
    (owed c.assign.new.todo.items) c.args.course.now c.assign.new.course c.assign.result) c.from_ref.ensures.value
    (subst (λ f. Steps d (one (level_of f) (assign c.from_ref.result.now None (value_tree x.value))
    ∷ owed c.push.new.todo.items) (owed c.assign.new.todo.items) c.args.course.now c.assign.new.course
    c.assign.result) c.frame_here-frame.ensures c.assign.ensures))
