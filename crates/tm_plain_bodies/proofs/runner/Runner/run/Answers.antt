use Rattle.std.proofs.Common.{sym, ap, ◌∙◌}
use Rattle.tm_scope.proofs.Entries.{empty_list}
use Rattle.tm_plain_bodies.specs.Inner.Owed.{owed, seen}
use Rattle.tm_plain_bodies.proofs.Stacks.{all_finished, next_fits, next_goes, next_lighter, owed_next, so_far_begins, so_far_steps, step_halts}
use Rattle.tm_plain_bodies.proofs.runner.Runner.run.Goals as goal

pub loop-next-init : goal.loop-next-init
loop-next-init c =
    so_far_begins c.args.self.now (owed c.args.todo.now.items) c.args.course.now c.requires.rows c.requires.fits

pub step-requires-clause-fits : goal.step-requires-clause-fits
step-requires-clause-fits c =
    next_fits c.args.self.now (owed c.args.todo.now.items) (owed c.loop-next.todo.items) c.args.course.now
    c.loop-next.course c.loop-next.invariant (seen c.in-Some.next) (owed c.pop.new.self.items)
    (owed_next c.loop-next.todo.items c.pop.new.self.items c.in-Some.next c.in-Some.ensures.items)

pub step-requires-clause-goes : goal.step-requires-clause-goes
step-requires-clause-goes c =
    next_goes c.args.self.now (owed c.args.todo.now.items) (owed c.loop-next.todo.items) c.args.course.now
    c.loop-next.course c.loop-next.invariant (seen c.in-Some.next) (owed c.pop.new.self.items)
    (owed_next c.loop-next.todo.items c.pop.new.self.items c.in-Some.next c.in-Some.ensures.items)

pub returns-in_err-step : goal.returns-in_err-step
returns-in_err-step c =
    step_halts c.args.self.now (owed c.args.todo.now.items) (owed c.loop-next.todo.items) c.args.course.now
    c.loop-next.course c.loop-next.invariant (seen c.in-Some.next) (owed c.pop.new.self.items)
    (owed_next c.loop-next.todo.items c.pop.new.self.items c.in-Some.next c.in-Some.ensures.items)
    c.requires.rows (owed c.step.new.todo.items) c.step.new.course c.from_residual.result _ c.from_residual.ensures.1
    c.in_err-step.ensures

pub loop-next-preserved : goal.loop-next-preserved
loop-next-preserved c =
    so_far_steps c.args.self.now (owed c.args.todo.now.items) (owed c.loop-next.todo.items) c.args.course.now
    c.loop-next.course c.loop-next.invariant (seen c.in-Some.next) (owed c.pop.new.self.items)
    (owed_next c.loop-next.todo.items c.pop.new.self.items c.in-Some.next c.in-Some.ensures.items)
    (owed c.step.new.todo.items) c.step.new.course c.in_ok-step.ensures

pub loop-next-smaller : goal.loop-next-smaller
loop-next-smaller c =
    next_lighter c.args.self.now (owed c.loop-next.todo.items) (seen c.in-Some.next) (owed c.pop.new.self.items)
    (owed_next c.loop-next.todo.items c.pop.new.self.items c.in-Some.next c.in-Some.ensures.items)
    (owed c.step.new.todo.items) c.loop-next.course c.step.new.course c.in_ok-step.ensures

pub returns : goal.returns
returns c =
    all_finished c.args.self.now (owed c.args.todo.now.items) (owed c.loop-next.todo.items) c.args.course.now
    c.loop-next.course c.requires.rows c.loop-next.invariant
    (ap owed (empty_list c.loop-next.todo.items (sym c.loop-next.todo.ok.0 ∙ c.in_default.ensures.cases.0)))
