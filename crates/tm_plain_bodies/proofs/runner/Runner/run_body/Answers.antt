use Rattle.std.proofs.Common.{◌∷◌, sym, ap, ◌∙◌, subst}
use Rattle.std.specs.List.{AllByRecursion}
use Rattle.tm_syntax.specs.Tree.View.{body_tree}
use Rattle.tm_plain_bodies.specs.Frames.{local_stmts}
use Rattle.tm_plain_bodies.specs.Inner.Owed.{Fits, IsRow, frame_of, owed, row}
use Rattle.tm_plain_bodies.specs.Inner.Steps.{Finishes}
use Rattle.tm_plain_bodies.proofs.Bodies.{locals_fit, stmts_fit}
use Rattle.tm_plain_bodies.proofs.runner.Runner.run_body.Goals as goal

pub run-requires-clause-rows : goal.run-requires-clause-rows
run-requires-clause-rows c =
    let level = c.args.level in
    let body = body_tree c.args.body.now in
    let are = c.in_ok-push_body.ensures
    ∙ ap (λ ts. row level (local_stmts body.locals) ∷ row level body.stmts ∷ owed ts) c.new-todo.ensures.items in
    subst (AllByRecursion IsRow) (sym are) (tt, (tt, tt))

pub run-requires-clause-fits : goal.run-requires-clause-fits
run-requires-clause-fits c =
    let d = c.args.self.now in
    let level = c.args.level in
    let f = frame_of d level in
    let body = body_tree c.args.body.now in
    let are = c.in_ok-push_body.ensures
    ∙ ap (λ ts. row level (local_stmts body.locals) ∷ row level body.stmts ∷ owed ts) c.new-todo.ensures.items in
    subst (AllByRecursion (Fits d)) (sym are)
    (locals_fit d f body c.requires, (stmts_fit d f body c.requires, tt))

pub returns : goal.returns
returns c =
    let level = c.args.level in
    let body = body_tree c.args.body.now in
    let are = c.in_ok-push_body.ensures
    ∙ ap (λ ts. row level (local_stmts body.locals) ∷ row level body.stmts ∷ owed ts) c.new-todo.ensures.items in
    subst (λ ts. Finishes c.args.self.now ts c.args.course.now c.run.new.course c.run.result) are c.run.ensures
