use Rattle.std.proofs.Common.{◌∷◌, sym, ap, subst}
use Rattle.tm_plain_bodies.specs.Inner.Owed.{Comes, Fits, owed, seen}
use Rattle.tm_plain_bodies.specs.Inner.Steps.{Stepped, Steps}
use Rattle.tm_plain_bodies.proofs.Entering.{call_left}
use Rattle.tm_plain_bodies.proofs.runner.Runner.step.Goals as goal

-- ---- statements
pub step_row-requires : goal.step_row-requires
step_row-requires c = subst (Fits c.args.self.now) (ap seen c.in-Stmts.is) c.requires.fits

pub returns-in-Stmts : goal.returns-in-Stmts
returns-in-Stmts c =
    subst (λ t. Steps c.args.self.now (t ∷ owed c.args.todo.now.items) (owed c.step_row.new.todo.items)
    c.args.course.now c.step_row.new.course c.step_row.result) (ap seen (sym c.in-Stmts.is)) c.step_row.ensures

-- ---- locals
pub step_locals-requires : goal.step_locals-requires
step_locals-requires c = subst (Fits c.args.self.now) (ap seen c.in-Locals.is) c.requires.fits

pub returns-in-Locals : goal.returns-in-Locals
returns-in-Locals c =
    subst (λ t. Steps c.args.self.now (t ∷ owed c.args.todo.now.items) (owed c.step_locals.new.todo.items)
    c.args.course.now c.step_locals.new.course c.step_locals.result) (ap seen (sym c.in-Locals.is))
    c.step_locals.ensures

-- ---- loops, to which no run comes again
pub step_row-requires-in-Again : goal.step_row-requires-in-Again
step_row-requires-in-Again c =
    absurd (c.requires.goes
    (subst (λ t. Comes c.args.self.now (t ∷ owed c.args.todo.now.items)) (ap seen (sym c.in-Again.is)) tt))

pub returns-in-Again : goal.returns-in-Again
returns-in-Again c =
    absurd (c.requires.goes
    (subst (λ t. Comes c.args.self.now (t ∷ owed c.args.todo.now.items)) (ap seen (sym c.in-Again.is)) tt))

-- ---- calls
pub returns-in-Leave : goal.returns-in-Leave
returns-in-Leave c =
    subst (λ t. Stepped c.args.self.now (t ∷ owed c.args.todo.now.items) (owed c.args.todo.now.items)
    c.args.course.now (record c.args.course.now { trail = c.leave.new.self })) (ap seen (sym c.in-Leave.is))
    (call_left c.args.self.now c.in-Leave.path.now (owed c.args.todo.now.items) c.args.course.now c.leave.new.self
    c.leave.ensures)

pub step_answer-requires : goal.step_answer-requires
step_answer-requires c = subst (Fits c.args.self.now) (ap seen c.in-Answer.is) c.requires.fits

pub returns-in-Answer : goal.returns-in-Answer
returns-in-Answer c =
    subst (λ t. Steps c.args.self.now (t ∷ owed c.args.todo.now.items) (owed c.args.todo.now.items)
    c.args.course.now c.step_answer.new.course c.step_answer.result) (ap seen (sym c.in-Answer.is))
    (c.step_answer.ensures (owed c.args.todo.now.items))
