use Rattle.std.proofs.Common.{map, refl, sym, ap, subst}
use Rattle.std.specs.Prelude.{IfOk}
use Rattle.tm_syntax.specs.Tree.{row_of}
use Rattle.tm_syntax.specs.Tree.View.{local_tree, stmt_trees}
use Rattle.tm_flat_bodies.specs.declared.waiting.Row.TheVariants as rows
use Rattle.tm_flat_bodies.specs.Inner.Passing.{local_stmts}
use Rattle.tm_flat_bodies.specs.Inner.Places.{row_tree, stack}
use Rattle.tm_flat_bodies.specs.Inner.Waiting.{RowGoal, StepsTo}
use Rattle.tm_flat_bodies.specs.Inner.Weights.{first_steps, row_most}
use Rattle.tm_flat_bodies.specs.Tables.{known_by}
use Rattle.tm_flat_bodies.specs.Walks.{RowWalks}
use Rattle.tm_flat_bodies.proofs.Beginning.{body_steps}
use Rattle.tm_flat_bodies.proofs.walker.Walker.begin_row_in.Goals as goal

pub returns-in_ok-leave-in-Body-2 : goal.returns-in_ok-leave-in-Body-2
returns-in_ok-leave-in-Body-2 c = λ start at.
    body_steps (known_by c.args.self.now) start c.args.spot c.args.stand.now at c.args.row
    (rows.Locals c.as_slice-in-Body.result) (rows.Stmts c.as_slice.result) c.in-Body.body.now c.args.course.now
    c.args.flow
    (ap row_tree c.in-Body.is)
    (ap (λ ls. row_of (local_stmts (map local_tree ls))) c.as_slice-in-Body.ensures.value)
    (ap (λ ss. row_of (stmt_trees ss)) c.as_slice.ensures.value) c.requires (stack c.args.waiting.now) _ _
    (ap first_steps c.in-Body.is) refl refl c.in_ok-leave-in-Body.ensures c.in_ok-leave-in-Body-2.ensures

pub first_local-requires : goal.first_local-requires
first_local-requires c =
    subst (λ row. RowWalks (known_by c.args.self.now) c.args.stand.now (row_tree row) c.args.course.now c.args.flow)
    c.in-Locals.is c.requires

pub returns-in-Locals : goal.returns-in-Locals
returns-in-Locals c = λ start at.
    let w = known_by c.args.self.now in
    let f = c.args.stand.now in
    subst (λ row. IfOk c.first_local.result (StepsTo w start
    (RowGoal w f (row_tree row) c.args.course.now c.args.flow) (λ d. row_most d f row)
    (stack c.args.waiting.now) (stack c.first_local.new.waiting) c.first_local.new.course)) (sym c.in-Locals.is)
    (c.first_local.ensures start at)

pub first_stmt-requires : goal.first_stmt-requires
first_stmt-requires c =
    subst (λ row. RowWalks (known_by c.args.self.now) c.args.stand.now (row_tree row) c.args.course.now c.args.flow)
    c.in-Stmts.is c.requires

pub returns-in-Stmts : goal.returns-in-Stmts
returns-in-Stmts c = λ start at.
    let w = known_by c.args.self.now in
    let f = c.args.stand.now in
    subst (λ row. IfOk c.first_stmt.result (StepsTo w start
    (RowGoal w f (row_tree row) c.args.course.now c.args.flow) (λ d. row_most d f row)
    (stack c.args.waiting.now) (stack c.first_stmt.new.waiting) c.first_stmt.new.course)) (sym c.in-Stmts.is)
    (c.first_stmt.ensures start at)
