use Rattle.std.proofs.Common.{None, refl, sym, subst}
use Rattle.std.specs.Prelude.{IfOk, unwrap_or}
use Rattle.tm_flat_bodies.specs.declared.waiting.Todo.TheVariants as todo
use Rattle.tm_flat_bodies.specs.Inner.Places.{stand_of}
use Rattle.tm_flat_bodies.specs.Inner.Waiting.{Asks, Does, LeadsAnswer}
use Rattle.tm_flat_bodies.specs.Tables.{known_by}
use Rattle.tm_flat_bodies.proofs.walker.Walker.begin_answer.Goals as goal

pub returns-in-None : goal.returns-in-None
returns-in-None c =
    subst (λ o. Does (known_by c.args.self.now) c.args.start.now
    (todo.Answer c.args.spot c.args.home c.args.task c.args.path c.args.place) c.args.course.now o c.args.course.now
    None) (sym c.in-None.is) (record { course = refl; flow = refl })

pub stand_in-outer-requires : goal.stand_in-outer-requires
stand_in-outer-requires c =
    (subst (λ o. Asks (known_by c.args.self.now) c.args.start.now
    (todo.Answer c.args.spot c.args.home c.args.task c.args.path c.args.place) c.args.course.now o) c.in-Some.is
    c.requires).there

pub stand_in-inner-requires : goal.stand_in-inner-requires
stand_in-inner-requires c =
    (subst (λ o. Asks (known_by c.args.self.now) c.args.start.now
    (todo.Answer c.args.spot c.args.home c.args.task c.args.path c.args.place) c.args.course.now o) c.in-Some.is
    c.requires).called

pub answer_by-requires : goal.answer_by-requires
answer_by-requires c = (
  c.args.spot,
  c.args.home,
  c.stand_in-outer.ensures,
  c.stand_in-inner.ensures,
  subst (λ o. Asks (known_by c.args.self.now) c.args.start.now
      (todo.Answer c.args.spot c.args.home c.args.task c.args.path c.args.place) c.args.course.now o) c.in-Some.is
      c.requires,
)

pub returns-in-Some : goal.returns-in-Some
returns-in-Some c =
    let w = known_by c.args.self.now in
    let start = c.args.start.now in
    subst (λ o. IfOk c.answer_by.result (Does w start
    (todo.Answer c.args.spot c.args.home c.args.task c.args.path c.args.place) c.args.course.now o
    c.answer_by.new.course)) (sym c.in-Some.is)
    (subst (λ f. IfOk c.answer_by.result (LeadsAnswer f c.args.path.now c.args.place
    (record { stand = stand_of w c.args.home; task = c.args.task }) c.args.course.now c.in-Some.left
    c.answer_by.new.course)) (sym (c.stand_in-outer.ensures start))
    (subst (λ f. IfOk c.answer_by.result (LeadsAnswer (unwrap_or c.stand_in-outer.result start) c.args.path.now
    c.args.place (record { stand = f; task = c.args.task }) c.args.course.now c.in-Some.left
    c.answer_by.new.course)) (sym (c.stand_in-inner.ensures start)) c.answer_by.ensures))
