use Rattle.std.proofs.Common.{◌∷◌, sym, ap, ◌∙◌, subst}
use Rattle.std.specs.List.{AllByRecursion}
use Rattle.tm_plain_bodies.specs.Inner.Owed.{Fits, IsRow, owed, seen}
use Rattle.tm_plain_bodies.specs.Inner.Steps.{Finishes}
use Rattle.tm_plain_bodies.proofs.runner.Runner.run_row.Goals as goal

pub run-requires-clause-rows : goal.run-requires-clause-rows
run-requires-clause-rows c =
    subst (AllByRecursion IsRow)
    (sym (c.in_ok-push.ensures ∙ ap (λ ts. seen c.args.next ∷ owed ts) c.new-todo.ensures.items)) (c.requires.row, tt)

pub run-requires-clause-fits : goal.run-requires-clause-fits
run-requires-clause-fits c =
    subst (AllByRecursion (Fits c.args.self.now))
    (sym (c.in_ok-push.ensures ∙ ap (λ ts. seen c.args.next ∷ owed ts) c.new-todo.ensures.items)) (c.requires.fits, tt)

pub returns : goal.returns
returns c =
    subst (λ ts. Finishes c.args.self.now ts c.args.course.now c.run.new.course c.run.result)
    (c.in_ok-push.ensures ∙ ap (λ ts. seen c.args.next ∷ owed ts) c.new-todo.ensures.items) c.run.ensures
