use Rattle.std.proofs.Common.{None, sym, subst}
use Rattle.std.specs.Prelude.{IfOk}
use Rattle.tm_flat_bodies.specs.declared.waiting.Todo.TheVariants as todo
use Rattle.tm_flat_bodies.specs.Inner.Places.{stack}
use Rattle.tm_flat_bodies.specs.Inner.Waiting.{Asks, Does, StepsTo}
use Rattle.tm_flat_bodies.specs.Inner.Weights.{todo_weight}
use Rattle.tm_flat_bodies.specs.Tables.{known_by}
use Rattle.tm_flat_bodies.proofs.Beginning.{row_left}
use Rattle.tm_flat_bodies.proofs.walker.Walker.begin_row.Goals as goal

pub returns-in-None : goal.returns-in-None
returns-in-None c =
    let w = known_by c.args.self.now in
    let start = c.args.start.now in
    subst (λ o. StepsTo w start (Does w start (todo.Row c.args.spot c.args.row) c.args.course.now o)
    (λ d. todo_weight d w start (todo.Row c.args.spot c.args.row)) (stack c.args.waiting.now)
    (stack c.args.waiting.now) c.args.course.now None) (sym c.in-None.is)
    (row_left w start c.args.spot c.args.row c.args.course.now (stack c.args.waiting.now))

pub stand_in-found-requires : goal.stand_in-found-requires
stand_in-found-requires c =
    (subst (λ o. Asks (known_by c.args.self.now) c.args.start.now (todo.Row c.args.spot c.args.row) c.args.course.now o)
    c.in-Some.is c.requires).there

pub begin_row_by-requires-clause-found : goal.begin_row_by-requires-clause-found
begin_row_by-requires-clause-found c = c.stand_in-found.ensures

pub begin_row_by-requires-clause-walks : goal.begin_row_by-requires-clause-walks
begin_row_by-requires-clause-walks c =
    subst (λ o. Asks (known_by c.args.self.now) c.args.start.now (todo.Row c.args.spot c.args.row) c.args.course.now o)
    c.in-Some.is c.requires

pub returns-in-Some : goal.returns-in-Some
returns-in-Some c =
    let w = known_by c.args.self.now in
    let start = c.args.start.now in
    subst (λ o. IfOk c.begin_row_by.result
    (StepsTo w start (Does w start (todo.Row c.args.spot c.args.row) c.args.course.now o)
    (λ d. todo_weight d w start (todo.Row c.args.spot c.args.row)) (stack c.args.waiting.now)
    (stack c.begin_row_by.new.waiting) c.begin_row_by.new.course)) (sym c.in-Some.is) c.begin_row_by.ensures
