use Rattle.std.proofs.Common.{◌∷◌, map, ap, ◌∙◌}
use Rattle.tm_syntax.specs.Tree.View.{local_tree, stmt_trees}
use Rattle.tm_plain_bodies.specs.Frames.{local_stmts}
use Rattle.tm_plain_bodies.specs.Inner.Owed.{owed, row}
use Rattle.tm_plain_bodies.proofs.todo.push_body.Goals as goal

pub returns : goal.returns
returns c =
    let level = c.args.level in
    let stmts = c.in_ok-push.ensures
    ∙ ap (λ ss. row level (stmt_trees ss) ∷ owed c.args.todo.now.items) c.as_slice.ensures.value in
    c.in_ok-push-2.ensures
    ∙ (λ i. row level (local_stmts (map local_tree (c.as_slice-2.ensures.value i))) ∷ stmts i)
