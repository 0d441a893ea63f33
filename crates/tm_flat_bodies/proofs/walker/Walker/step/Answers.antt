use Rattle.std.proofs.Common.{refl, sym, subst, arith}
use Rattle.std.specs.Prelude.{IfOk}
use Rattle.tm_flat_bodies.specs.declared.waiting.Todo.TheVariants as todo
use Rattle.tm_flat_bodies.specs.Inner.Places.{stack}
use Rattle.tm_flat_bodies.specs.Inner.Waiting.{Asks, Does, StepsTo}
use Rattle.tm_flat_bodies.specs.Inner.Weights.{todo_weight}
use Rattle.tm_flat_bodies.specs.Tables.{known_by}
use Rattle.tm_flat_bodies.proofs.Stepping.{at_once, done_at_once}
use Rattle.tm_flat_bodies.proofs.walker.Walker.step.Goals as goal

pub begin_row-requires : goal.begin_row-requires
begin_row-requires c =
    subst (λ t. Asks (known_by c.args.self.now) c.args.start.now t c.args.course.now c.args.here) c.in-Row.is c.requires

pub returns-in-Row : goal.returns-in-Row
returns-in-Row c =
    let w = known_by c.args.self.now in
    let start = c.args.start.now in
    subst (λ t. IfOk c.begin_row.result (StepsTo w start (Does w start t c.args.course.now c.args.here)
    (λ d. todo_weight d w start t) (stack c.args.waiting.now) (stack c.begin_row.new.waiting) c.begin_row.new.course))
    (sym c.in-Row.is)
    c.begin_row.ensures

pub begin_second-requires : goal.begin_second-requires
begin_second-requires c =
    subst (λ t. Asks (known_by c.args.self.now) c.args.start.now t c.args.course.now c.args.here) c.in-Second.is
    c.requires

pub returns-in-Second : goal.returns-in-Second
returns-in-Second c =
    let w = known_by c.args.self.now in
    let start = c.args.start.now in
    subst (λ t. IfOk c.begin_second.result (StepsTo w start (Does w start t c.args.course.now c.args.here)
    (λ d. todo_weight d w start t) (stack c.args.waiting.now) (stack c.begin_second.new.waiting) c.args.course.now))
    (sym c.in-Second.is)
    c.begin_second.ensures

pub next_alternative-requires : goal.next_alternative-requires
next_alternative-requires c =
    subst (λ t. Asks (known_by c.args.self.now) c.args.start.now t c.args.course.now c.args.here) c.in-Alternatives.is
    c.requires

pub returns-in-Alternatives : goal.returns-in-Alternatives
returns-in-Alternatives c =
    let w = known_by c.args.self.now in
    let start = c.args.start.now in
    subst (λ t. IfOk c.next_alternative.result (StepsTo w start (Does w start t c.args.course.now c.args.here)
    (λ d. todo_weight d w start t) (stack c.args.waiting.now) (stack c.next_alternative.new.waiting)
    c.next_alternative.new.course)) (sym c.in-Alternatives.is)
    c.next_alternative.ensures

pub join-requires-clause-sound : goal.join-requires-clause-sound
join-requires-clause-sound c =
    (subst (λ t. Asks (known_by c.args.self.now) c.args.start.now t c.args.course.now c.args.here) c.in-Join.is
    c.requires).sound

pub join-requires-clause-flows : goal.join-requires-clause-flows
join-requires-clause-flows c =
    let w = known_by c.args.self.now in
    let asks = subst (λ t. Asks w c.args.start.now t c.args.course.now c.args.here) c.in-Join.is c.requires in
    (w.tables, asks.joins, asks.joined)

pub returns-in-Join : goal.returns-in-Join
returns-in-Join c =
    let w = known_by c.args.self.now in
    let start = c.args.start.now in
    subst (λ t. IfOk c.join.result (StepsTo w start (Does w start t c.args.course.now c.args.here)
    (λ d. todo_weight d w start t) (stack c.args.waiting.now) (stack c.args.waiting.now) c.join.new.course))
    (sym c.in-Join.is)
    (done_at_once w start (todo.Join c.in-Join.left) c.args.course.now c.join.new.course c.args.here
    (stack c.args.waiting.now) c.join.result (λ d. omega arith) c.join.ensures)

pub returns-in-Loop : goal.returns-in-Loop
returns-in-Loop c =
    let w = known_by c.args.self.now in
    let start = c.args.start.now in
    subst (λ t. StepsTo w start (Does w start t c.args.course.now c.args.here) (λ d. todo_weight d w start t)
    (stack c.args.waiting.now) (stack c.args.waiting.now) c.args.course.now c.in-Loop.after) (sym c.in-Loop.is)
    (at_once w start (Does w start (todo.Loop c.in-Loop.after) c.args.course.now c.args.here) (λ d. 1)
    (stack c.args.waiting.now) (stack c.args.waiting.now) c.args.course.now c.in-Loop.after refl (λ d. omega arith)
    (record { course = refl; flow = refl }))

pub begin_answer-requires : goal.begin_answer-requires
begin_answer-requires c =
    subst (λ t. Asks (known_by c.args.self.now) c.args.start.now t c.args.course.now c.args.here) c.in-Answer.is
    c.requires

pub returns-in-Answer : goal.returns-in-Answer
returns-in-Answer c =
    let w = known_by c.args.self.now in
    let start = c.args.start.now in
    subst (λ t. IfOk c.begin_answer.result (StepsTo w start (Does w start t c.args.course.now c.args.here)
    (λ d. todo_weight d w start t) (stack c.args.waiting.now) (stack c.args.waiting.now) c.begin_answer.new.course))
    (sym c.in-Answer.is)
    (done_at_once w start
    (todo.Answer c.in-Answer.spot c.in-Answer.home c.in-Answer.task c.in-Answer.path c.in-Answer.place)
    c.args.course.now c.begin_answer.new.course c.args.here (stack c.args.waiting.now) c.begin_answer.result
    (λ d. omega arith) c.begin_answer.ensures)
