use Rattle.std.proofs.Common.{ap, ◌∙◌}
use Rattle.tm_syntax.specs.Tree.View.{expr_tree}
use Rattle.tm_locations.specs.Locations.{work_stmts}
use Rattle.tm_plain.proofs.Working.{work_does, work_fits, work_typed}
use Rattle.tm_plain.proofs.machine.Machine.work_by.Goals as goal

pub perform_locals-requires : goal.perform_locals-requires
perform_locals-requires c =
    work_fits c.args.self.now c.args.node.now.scope c.args.frame.now c.requires.frame _ _
    (ap work_stmts c.in-Locals.is) c.self.inside.runner (c.self.invariant.0 ∙ c.self.view_is) c.requires.filled
    c.requires.stand

pub perform_row-requires : goal.perform_row-requires
perform_row-requires c =
    work_fits c.args.self.now c.args.node.now.scope c.args.frame.now c.requires.frame _ _
    (ap work_stmts c.in-Stmts.is) c.self.inside.runner (c.self.invariant.0 ∙ c.self.view_is) c.requires.filled
    c.requires.stand

pub assume-requires : goal.assume-requires
assume-requires c =
    work_typed c.args.self.now c.args.node.now.scope c.args.frame.now c.requires.frame _ c.in-Assume.field-0
    (expr_tree c.in-Assume.e.now) (ap work_stmts c.in-Assume.is) c.requires.stand

pub returns-in-Locals : goal.returns-in-Locals
returns-in-Locals c =
    work_does c.args.self.now c.args.node.now.scope c.args.frame.now c.requires.frame _ _
    (ap work_stmts c.in-Locals.is) c.args.course.now c.perform_locals.new.course c.perform_locals.result
    c.perform_locals.ensures.does

pub returns-in-Stmts : goal.returns-in-Stmts
returns-in-Stmts c =
    work_does c.args.self.now c.args.node.now.scope c.args.frame.now c.requires.frame _ _
    (ap work_stmts c.in-Stmts.is) c.args.course.now c.perform_row.new.course c.perform_row.result
    c.perform_row.ensures.does

pub returns-in-Assume : goal.returns-in-Assume
returns-in-Assume c =
    work_does c.args.self.now c.args.node.now.scope c.args.frame.now c.requires.frame _ _
    (ap work_stmts c.in-Assume.is) c.args.course.now c.assume.new.course c.assume.result
    (c.assume.ensures c.in-Assume.field-0)
