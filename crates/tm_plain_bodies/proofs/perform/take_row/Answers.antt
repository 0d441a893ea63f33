use Rattle.std.proofs.Common.{◌∷◌, ap, ◌∙◌}
use Rattle.tm_syntax.specs.Tree.View.{stmt_trees}
use Rattle.tm_plain_bodies.specs.Inner.Owed.{owed, row}
use Rattle.tm_plain_bodies.proofs.perform.take_row.Goals as goal

pub returns-clause-left : goal.returns-clause-left
returns-clause-left c =
    c.in_ok-push.ensures
    ∙ ap (λ level. row level (stmt_trees c.args.stmts.now) ∷ owed c.args.todo.now.items) c.level.ensures
