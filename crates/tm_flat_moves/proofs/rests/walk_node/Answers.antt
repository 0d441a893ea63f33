use Rattle.std.proofs.Common.{List, Option, sym, subst}
use Rattle.std.specs.Prelude.{IfOk}
use Rattle.tm_syntax.specs.Tree.{assume, row_of}
use Rattle.tm_syntax.specs.Tree.View.{expr_tree}
use Rattle.tm_locations.specs.declared.table.Work.{Work}
use Rattle.tm_locations.specs.Locations.{work_stmts}
use Rattle.tm_flat_bodies.specs.Tables.{known_by}
use Rattle.tm_flat_bodies.specs.Walks.{RowLeads, RowWalks}
use Rattle.tm_flat_moves.proofs.Waiting.{one_leads, one_walks}
use Rattle.tm_flat_moves.proofs.rests.walk_node.Goals as goal

pub walk_locals-requires : goal.walk_locals-requires
walk_locals-requires c =
    subst (λ (w : Work). RowWalks (known_by c.args.walker.now) c.args.stand.now (row_of (work_stmts w))
    c.args.course.now c.args.flow) c.in-Locals.is c.requires

pub returns-in-Locals : goal.returns-in-Locals
returns-in-Locals c =
    subst (λ (w : Work). IfOk c.walk_locals.result (RowLeads (known_by c.args.walker.now) c.args.stand.now
    (row_of (work_stmts w)) c.args.course.now c.walk_locals.new.course c.args.flow)) (sym c.in-Locals.is)
    c.walk_locals.ensures

pub walk_row-requires : goal.walk_row-requires
walk_row-requires c =
    subst (λ (w : Work). RowWalks (known_by c.args.walker.now) c.args.stand.now (row_of (work_stmts w))
    c.args.course.now c.args.flow) c.in-Stmts.is c.requires

pub returns-in-Stmts : goal.returns-in-Stmts
returns-in-Stmts c =
    subst (λ (w : Work). IfOk c.walk_row.result (RowLeads (known_by c.args.walker.now) c.args.stand.now
    (row_of (work_stmts w)) c.args.course.now c.walk_row.new.course c.args.flow)) (sym c.in-Stmts.is)
    c.walk_row.ensures

pub wait_over-requires : goal.wait_over-requires
wait_over-requires c =
    let place = c.in-Assume.field-0 in (
      place,
      one_walks (known_by c.args.walker.now) c.args.stand.now (assume place (expr_tree c.in-Assume.e.now))
          c.args.course.now c.args.flow
          (subst (λ (w : Work). RowWalks (known_by c.args.walker.now) c.args.stand.now (row_of (work_stmts w))
          c.args.course.now c.args.flow) c.in-Assume.is c.requires),
    )

pub returns-in_ok-left-in-Assume : goal.returns-in_ok-left-in-Assume
returns-in_ok-left-in-Assume c =
    let place = c.in-Assume.field-0 in
    subst (λ (w : Work). RowLeads (known_by c.args.walker.now) c.args.stand.now (row_of (work_stmts w))
    c.args.course.now c.wait_over.new.course c.args.flow c.in_ok-left-in-Assume.left) (sym c.in-Assume.is)
    (one_leads (known_by c.args.walker.now) c.args.stand.now (assume place (expr_tree c.in-Assume.e.now))
    c.args.course.now c.args.flow
    (subst (λ (w : Work). RowWalks (known_by c.args.walker.now) c.args.stand.now (row_of (work_stmts w))
    c.args.course.now c.args.flow) c.in-Assume.is c.requires) c.wait_over.new.course c.in_ok-left-in-Assume.left
    (c.in_ok-left-in-Assume.ensures place))
