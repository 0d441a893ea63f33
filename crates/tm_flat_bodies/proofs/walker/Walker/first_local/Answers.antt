use Rattle.std.proofs.Common.{None, map, refl, sym, ap, subst, arith}
use Rattle.tm_syntax.specs.Tree as trees
use Rattle.tm_syntax.specs.Tree.{row_of}
use Rattle.tm_syntax.specs.Tree.View.{local_tree, value_tree}
use Rattle.tm_scope.proofs.Entries.{empty_list}
use Rattle.tm_locations.proofs.WalkParts.{first-split}
use Rattle.tm_flat_bodies.specs.declared.waiting.Row.TheVariants as rows
use Rattle.tm_flat_bodies.specs.Inner.Passing.{local_stmts}
use Rattle.tm_flat_bodies.specs.Inner.Places.{stack}
use Rattle.tm_flat_bodies.specs.Inner.Waiting.{StepsTo, StmtGoal}
use Rattle.tm_flat_bodies.specs.Inner.Weights.{stmt_most}
use Rattle.tm_flat_bodies.specs.Tables.{known_by}
use Rattle.tm_flat_bodies.specs.Walks.{StmtWalks}
use Rattle.tm_flat_bodies.proofs.Beginning.{first_steps_on, first_walks_on, nothing_left}
use Rattle.tm_flat_bodies.proofs.Bodies.{local_stmt}
use Rattle.tm_flat_bodies.proofs.Stepping.{if_ok}
use Rattle.tm_flat_bodies.proofs.walker.Walker.first_local.Goals as goal

pub returns-in_default : goal.returns-in_default
returns-in_default c = λ start at.
    nothing_left (known_by c.args.self.now) start c.args.stand.now (rows.Locals c.args.locals) c.args.course.now
    c.args.flow (stack c.args.waiting.now)
    (ap (λ ls. row_of (local_stmts (map local_tree ls))) (empty_list c.args.locals.now (omega arith))) c.requires

pub assign-requires : goal.assign-requires
assign-requires c =
    let x = c.first-item.result in
    subst (λ names. StmtWalks (known_by c.args.self.now) c.args.stand.now
    (trees.assign names None (value_tree x.value)) c.args.course.now c.args.flow) (sym c.from_ref-name.ensures.value)
    (first_walks_on (known_by c.args.self.now) c.args.stand.now
    (row_of (local_stmts (map local_tree c.args.locals.now))) _ (local_stmt (local_tree x)) c.args.course.now
    c.args.flow
    (ap (λ ls. row_of (local_stmts (map local_tree ls)))
    (first-split c.args.locals.now x (omega arith) c.first-item.is)) c.requires)

pub returns : goal.returns
returns c = λ start at.
    let w = known_by c.args.self.now in
    let f = c.args.stand.now in
    let x = c.first-item.result in
    if_ok c.assign.result
    (λ here step.
    first_steps_on w start c.args.spot f at (rows.Locals c.args.locals) (rows.Locals _) (local_stmt (local_tree x))
    c.args.course.now c.args.flow
    (ap (λ ls. row_of (local_stmts (map local_tree ls)))
    (first-split c.args.locals.now x (omega arith) c.first-item.is)) c.requires (stack c.args.waiting.now) _
    (stack c.assign.new.waiting) c.assign.new.course here c.in_ok-leave.ensures refl refl
    (subst (λ names. StepsTo w start (StmtGoal w f (trees.assign names None (value_tree x.value)) c.args.course.now
    c.args.flow) (λ d. stmt_most d f (trees.assign names None (value_tree x.value))) (stack c.leave.new.self)
    (stack c.assign.new.waiting) c.assign.new.course here) c.from_ref-name.ensures.value step))
    (c.assign.ensures start at)
