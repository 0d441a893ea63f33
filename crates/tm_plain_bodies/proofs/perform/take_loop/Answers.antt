use Rattle.std.proofs.Common.{◌∷◌, ap, ◌∙◌}
use Rattle.tm_syntax.specs.Tree.View.{stmt_tree, stmt_trees}
use Rattle.tm_plain_bodies.specs.Inner.Owed.{again, owed, row}
use Rattle.tm_plain_bodies.proofs.perform.take_loop.Goals as goal

pub returns-clause-left : goal.returns-clause-left
returns-clause-left c =
    let loop = c.in_ok-push.ensures
    ∙ ap (λ level. again level (stmt_tree c.args.stmt.now) ∷ owed c.args.todo.now.items) c.level.ensures in
    c.in_ok-push-2.ensures ∙ (λ i. row (c.level-2.ensures i) (stmt_trees c.args.body.now) ∷ loop i)
