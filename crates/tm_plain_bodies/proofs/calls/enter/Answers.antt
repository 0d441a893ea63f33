use Rattle.std.proofs.Common.{◌∷◌, refl, ◌∙◌}
use Rattle.tm_syntax.specs.Tree.View.{body_tree}
use Rattle.tm_plain_bodies.specs.Frames.{local_stmts}
use Rattle.tm_plain_bodies.specs.Inner.Owed.{row}
use Rattle.tm_plain_bodies.proofs.calls.enter.Goals as goal

pub returns-clause-entered : goal.returns-clause-entered
returns-clause-entered c = record { trail = c.in_ok-enter.ensures; store = refl; choices = refl }

pub returns-clause-left : goal.returns-clause-left
returns-clause-left c =
    let body = body_tree c.args.called.now.task.now.body in
    c.in_ok-push_body.ensures
    ∙ (λ i. row (c.level.ensures i) (local_stmts body.locals) ∷ row (c.level.ensures i) body.stmts
    ∷ c.in_ok-push.ensures i)
