use Rattle.std.proofs.Common.{◌∷◌, ◌∙◌}
use Rattle.std.proofs.lemmas.Result.{IfOk-weaker}
use Rattle.tm_syntax.specs.Tree.View.{body_tree}
use Rattle.tm_plain_bodies.specs.Frames.{local_stmts}
use Rattle.tm_plain_bodies.specs.Inner.Owed.{answer, leave, level_of, owed, row}
use Rattle.tm_plain_bodies.proofs.calls.enter_for.Goals as goal

pub returns-clause-left : goal.returns-clause-left
returns-clause-left c =
    let level = level_of c.args.called.now.frame in
    let task = c.args.called.now.task.now in
    let body = body_tree task.body in
    IfOk-weaker c.enter.result _ _
    (λ _ left. left
    ∙ (λ i. row level (local_stmts body.locals) ∷ row level body.stmts ∷ leave c.args.path.now
    ∷ (c.in_ok-push.ensures
    ∙ (λ j. answer (c.level.ensures j) (c.at.ensures j) task c.args.cell ∷ owed c.args.todo.now.items)) i))
    c.enter.ensures.left
